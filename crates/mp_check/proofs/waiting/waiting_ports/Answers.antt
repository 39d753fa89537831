use Rattle.std.proofs.Common.{◌≡◌, ℕ, ◌+◌, List, sym, subst, ◌∙◌, arith}
use Rattle.mp_holding.specs.declared.sets.needs.Needs.{Needs}
use Rattle.mp_holding.specs.declared.sets.needs.Shape.TheVariants.{Any}
use Rattle.mp_check.specs.Dead.{port_slots}
use Rattle.mp_check.specs.Waiting.{may_wait}
use Rattle.mp_check.proofs.NeedLemmas.{AreNeeds, more_needs, same_closed, weaken_ok}
use Rattle.mp_check.proofs.AwaitedLemmas.{no_wait_past}
use Rattle.mp_check.proofs.waiting.waiting_ports.Goals as goal

pub loop-number-preserved : goal.loop-number-preserved
loop-number-preserved c =
    let n = c.args.end.now.at.netlist.now in
    let number = c.loop-number.number in
    let next = more_needs Any (may_wait n) number c.loop-number.needs.items c.needs_of.result c.loop-number.invariant c.needs_of.ensures in
    subst (λ (l : List Needs). AreNeeds Any (may_wait n) (number + 1) l) (sym c.in_ok-push.ensures.items) next

pub returns : goal.returns
returns c =
    let n = c.args.end.now.at.netlist.now in
    let test = c.loop-number-test.false in
    let upto = c.loop-number.auto.number-end in
    let count = c.port_slots-count.ensures in
    let all : c.loop-number.number ≡ port_slots n = omega (arith, test, upto, count) in
    let whole : AreNeeds Any (may_wait n) (port_slots n) c.as_slice.result.now =
    subst (λ (l : List Needs). AreNeeds Any (may_wait n) (port_slots n) l) (sym c.as_slice.ensures.value)
    (subst (λ (k : ℕ). AreNeeds Any (may_wait n) k c.loop-number.needs.items) all c.loop-number.invariant) in
    weaken_ok c.greatest_closed_set.result _ _
    (λ marks members k. members k ∙ same_closed Any (may_wait n) (port_slots n) c.as_slice.result.now whole (no_wait_past n) k)
    c.greatest_closed_set.ensures.members
