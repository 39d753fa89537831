use Rattle.std.proofs.Common.{◌≡◌, false, sym, subst, rules, arith}
use Rattle.mp_partition.specs.runs.Marks.{is_marked}
use Rattle.mp_near.specs.reach.Reach.{IsClosedBetween}
use Rattle.mp_near.specs.declared.reach.reached.Reached.{Reached}
use Rattle.mp_near.proofs.lemmas.reach.ReachLemmas.{between_next}
use Rattle.mp_near.proofs.reach.reached.Reached.step.Goals as goal

pub returns-then-not-is_marked-clause-closed : goal.returns-then-not-is_marked-clause-closed
returns-then-not-is_marked-clause-closed c = λ closed.
    let not : is_marked c.args.self.now.wires.items c.args.wire.0 ≡ false = search rules in
    between_next c.args.new.now c.args.self.now.modules.items c.args.self.now.wires.items c.args.passed.last c.args.wire.0 (λ is. absurd (let no : ⊥ = cc in no)) closed

pub returns-then-left-passed-clause-closed : goal.returns-then-left-passed-clause-closed
returns-then-left-passed-clause-closed c = λ closed.
    let s = c.visit.new.self in
    let same = c.in-Some.ensures.same c.if-left-passed.true in
    between_next c.args.new.now s.modules.items s.wires.items c.args.passed.last c.args.wire.0 (λ is. c.in-Some.ensures.readers)
    (subst (λ (r : Reached). IsClosedBetween c.args.new.now r.modules.items r.wires.items c.args.passed.last c.args.wire.0) (sym same) closed)

pub returns-clause-closed : goal.returns-clause-closed
returns-clause-closed c = λ closed k at low is. absurd (omega (arith, at, low))
