use Rattle.mp_active.proofs.lemmas.compare.OldRunLemmas.{runs_are_old, runs_have_waves, runs_end}
use Rattle.mp_active.proofs.compare.laws.runs_are_old.Goals as goal

pub returns : goal.returns
returns c = record { levels = runs_are_old; waves = runs_have_waves; end = runs_end }
