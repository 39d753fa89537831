use Rattle.std.proofs.Common.{ℕ, sym, subst, arith}
use Rattle.mp_near.specs.reach.Reach.{IsClosedBetween}
use Rattle.mp_near.specs.declared.reach.reached.Reached.{Reached}
use Rattle.mp_near.proofs.lemmas.reach.ReachLemmas.{whole_between}
use Rattle.mp_near.proofs.reach.reached.Reached.spread.Goals as goal

pub returns-then-below-above : goal.returns-then-below-above
returns-then-below-above c = λ is.
    let old = c.args.old.now in
    let new = c.args.new.now in
    let middle = c.in-Some.above.last in
    let end = c.wire_slots-end.result in
    let two = c.pass-in-rounds.new.self in
    let value = c.wire_slots-end.ensures.value in
    let none = c.in-Some-pass.ensures.none c.if-below-above.true in
    let below = subst (λ (k : ℕ). IsClosedBetween new two.modules.items two.wires.items k middle) none.0 c.in-Some-pass.ensures.closed in
    let above = subst (λ (s : Reached). IsClosedBetween new s.modules.items s.wires.items middle end) (sym none.1) c.in-Some.ensures.closed in
    whole_between old new two.modules.items two.wires.items middle end (omega (arith, value)) c.pass-in-rounds.ensures.reach below above
