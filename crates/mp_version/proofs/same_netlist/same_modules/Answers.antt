use Rattle.std.proofs.Common.{refl, arith}
use Rattle.mp_version.proofs.SameLemmas.{same_slots}
use Rattle.mp_version.proofs.same_netlist.same_modules.Goals as goal

pub returns : goal.returns
returns c = (λ _. same_slots c.args.a.now.modules c.args.b.now.modules (omega arith) (λ k within. c.loop-number.invariant k (omega arith)), λ _. refl)
