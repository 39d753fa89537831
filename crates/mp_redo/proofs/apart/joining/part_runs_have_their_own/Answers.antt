use Rattle.mp_redo.proofs.lemmas.apart.PartRunLemmas.{part_runs_have_waves, part_runs_have_ends, part_runs_keep_states}
use Rattle.mp_redo.proofs.apart.joining.part_runs_have_their_own.Goals as goal

pub returns : goal.returns
returns c = record { waves = part_runs_have_waves; ends = part_runs_have_ends; states = part_runs_keep_states }
