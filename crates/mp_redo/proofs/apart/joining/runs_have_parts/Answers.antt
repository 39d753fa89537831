use Rattle.mp_redo.proofs.lemmas.apart.PartRunLemmas.{runs_have_part_waves, runs_have_part_ends, runs_keep_part_states}
use Rattle.mp_redo.proofs.apart.joining.runs_have_parts.Goals as goal

pub returns : goal.returns
returns c = record { waves = runs_have_part_waves; ends = runs_have_part_ends; states = runs_keep_part_states }
