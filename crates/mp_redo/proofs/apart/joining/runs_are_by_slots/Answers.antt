use Rattle.mp_redo.proofs.lemmas.apart.RunSlotLemmas.{runs_are_by_slots, runs_keep_states}
use Rattle.mp_redo.proofs.apart.joining.runs_are_by_slots.Goals as goal

pub returns : goal.returns
returns c = record { slots = runs_are_by_slots; states = runs_keep_states }
