use Rattle.std.proofs.Common.{refl, arith}
use Rattle.std.proofs.lemmas.List.{same_lists}
use Rattle.mp_records.proofs.same.same_list.Goals as goal

pub returns : goal.returns
returns g c = (λ _. same_lists _ _ c.if-a-b.false (λ k d within. c.loop-index.invariant k d (omega arith)), λ _. refl)
