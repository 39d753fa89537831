use Rattle.std.proofs.Common.{refl, arith}
use Rattle.mp_version.proofs.SameLemmas.{same_places}
use Rattle.mp_version.proofs.same_version.same_history.Goals as goal

pub returns : goal.returns
returns c = (λ _. same_places c.args.a.now c.args.b.now (omega arith) (λ k within. c.loop-index.invariant k (omega arith)), λ _. refl)
