use Rattle.std.proofs.Common.{sym, subst, ◌∙◌}
use Rattle.mp_check.specs.Dead.{AreDead}
use Rattle.mp_check.specs.Waiting.{AreWaiting}
use Rattle.mp_check.proofs.DeadlockLemmas.{nobody_is_dead, nobody_waits_unmarked}
use Rattle.mp_check.proofs.deadlocks.deadlocks.Goals as goal

pub returns-then-are_unmarked : goal.returns-then-are_unmarked
returns-then-are_unmarked c =
    let n = c.args.end.now.at.netlist.now in
    let marks = c.as_slice.result.now in
    c.new.ensures.items ∙ nobody_is_dead n marks (subst (AreDead n) (sym c.as_slice.ensures.value) c.in_ok-dead.ensures) (sym c.are_unmarked.ensures ∙ c.if-are_unmarked.true)

pub returns-then-are_unmarked-2 : goal.returns-then-are_unmarked-2
returns-then-are_unmarked-2 c =
    let n = c.args.end.now.at.netlist.now in
    let marks = c.as_slice-3.result.now in
    c.new-then-are_unmarked-2.ensures.items ∙ nobody_waits_unmarked n marks (subst (AreWaiting n) (sym c.as_slice-3.ensures.value) c.in_ok-waiting.ensures) (sym c.are_unmarked-2.ensures ∙ c.if-are_unmarked-2.true)
