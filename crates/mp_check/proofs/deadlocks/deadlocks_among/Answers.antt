use Rattle.std.proofs.Common.{◌≤◌, ℕ, List, All, length, map, sym, ap, subst, ◌∙◌, arith}
use Rattle.std.proofs.lemmas.List.{take_all}
use Rattle.mp_check.specs.Dead.{port_slots}
use Rattle.mp_check.specs.Deadlocks.{deadlock_from}
use Rattle.mp_check.proofs.DeadlockLemmas.{deadlocks_are, next_few, next_fit}
use Rattle.mp_check.proofs.deadlocks.deadlocks_among.Goals as goal

pub round_beginnings-requires-clause-few : goal.round_beginnings-requires-clause-few
round_beginnings-requires-clause-few c =
    let n = c.args.ports.now.end.at.netlist.now in
    next_few n c.as_slice.result.now (c.as_slice.ensures.value ∙ c.in_ok-next.ensures.each) c.horizon-horizon.ensures.form

pub round_beginnings-requires-clause-next : goal.round_beginnings-requires-clause-next
round_beginnings-requires-clause-next c =
    let n = c.args.ports.now.end.at.netlist.now in
    next_fit n c.as_slice.result.now (c.as_slice.ensures.value ∙ c.in_ok-next.ensures.each)
    (subst (λ (xs : List ℕ). All (λ k. k ≤ port_slots n) xs) (sym c.as_slice.ensures.value) c.in_ok-next.ensures.within)

pub returns : goal.returns
returns c =
    let n = c.args.ports.now.end.at.netlist.now in
    let firsts = c.deref-first-items.result.now in
    let over : length firsts ≤ c.loop-first.first-index = omega arith in
    c.loop-first.invariant ∙ ap (map (deadlock_from n)) (take_all c.loop-first.first-index firsts over)
    ∙ deadlocks_are n c.as_slice.result.now (c.as_slice.ensures.value ∙ c.in_ok-next.ensures.each) firsts (c.deref-first-items.ensures.value ∙ c.in_ok-firsts.ensures)
