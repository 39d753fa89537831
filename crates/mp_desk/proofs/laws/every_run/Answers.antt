use Rattle.mp_desk.proofs.RunLemmas as runs
use Rattle.mp_desk.proofs.laws.every_run.Goals as goal

pub returns : goal.returns
returns c = runs.every_run
