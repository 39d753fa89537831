use Rattle.std.proofs.Common.{◌≡◌, ◌+◌, ◌-◌, ◌<◌, ◌++◌, ◌∷◌, [], ℕ, List, Option, suc, ap, ◌∙◌, arith}
use Rattle.mp_check.specs.Dead.{port_slots}
use Rattle.mp_check.specs.Deadlocks.{deadlock_from, waits_to}
use Rattle.mp_check.specs.declared.wait.Wait.{Wait}
use Rattle.mp_check.proofs.DeadlockLemmas.{waits_last, waits_more}
use Rattle.mp_check.proofs.deadlocks.deadlock_from.Goals as goal

pub returns-then-wait-first : goal.returns-then-wait-first
returns-then-wait-first c =
    let n = c.args.ports.now.end.at.netlist.now in
    let first = c.args.first in
    let count : ℕ = port_slots n - c.loop.counter in
    let some : 0 < count = omega (arith, c.loop-test.true, c.port_slots-end.ensures) in
    c.in_ok-push.ensures.items ∙ waits_last n first c.loop.waits.items (deadlock_from n first) count c.loop.next c.in-Some.wait some c.in-Some.is c.if-wait-first.true c.loop.invariant

pub loop-preserved : goal.loop-preserved
loop-preserved c =
    let n = c.args.ports.now.end.at.netlist.now in
    let first = c.args.first in
    let xs = c.loop.waits.items in
    let w = c.in-Some.wait in
    let count : ℕ = port_slots n - c.loop.counter in
    let rest : ℕ = port_slots n - (c.loop.counter + 1) in
    let some : count ≡ suc rest = omega (arith, c.loop-test.true, c.port_slots-end.ensures) in
    ap (λ (l : List Wait). l ++ waits_to n first rest c.wait_of-next-in-loop.result) c.in_ok-push.ensures.items
    ∙ ap (λ (o : Option Wait). (xs ++ w ∷ []) ++ waits_to n first rest o) c.wait_of-next-in-loop.ensures.value
    ∙ waits_more n first xs (deadlock_from n first) count rest c.loop.next w some c.in-Some.is c.if-wait-first.false c.loop.invariant
