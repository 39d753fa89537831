use Rattle.mp_near.proofs.lemmas.laws.RunLemmas.{picked_have_runs, others_have_runs}
use Rattle.mp_near.proofs.laws.picked_have_runs.Goals as goal

pub returns : goal.returns
returns c = record { picked = picked_have_runs; others = others_have_runs }
