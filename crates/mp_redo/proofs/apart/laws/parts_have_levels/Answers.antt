use Rattle.mp_redo.proofs.lemmas.apart.PartLevelLemmas.{parts_have_levels, parts_have_waves, others_rest, others_have_no_changes, parts_have_states, parts_have_states_before, parts_have_inputs}
use Rattle.mp_redo.proofs.apart.laws.parts_have_levels.Goals as goal

pub returns : goal.returns
returns c = record {
  levels = parts_have_levels;
  waves = parts_have_waves;
  rest = others_rest;
  no_changes = others_have_no_changes;
  states = parts_have_states;
  before = parts_have_states_before;
  inputs = parts_have_inputs;
}
