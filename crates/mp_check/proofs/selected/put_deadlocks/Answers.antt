use Rattle.std.proofs.Common.{◌≤◌, length, ap, arith}
use Rattle.mp_streams.proofs.OutLemmas.{puts_none, puts_next, puts_stopped, writes_failed}
use Rattle.mp_questions.proofs.lemmas.causes.WhyLemmas.{puts_text}
use Rattle.mp_check.specs.CheckLines.{deadlock_line}
use Rattle.mp_check.specs.Selections.{keeps_deadlock, selected}
use Rattle.mp_check.proofs.SelectedLemmas.{kept, kept_lines, kept_over}
use Rattle.mp_check.proofs.selected.put_deadlocks.Goals as goal

pub loop-deadlock-init : goal.loop-deadlock-init
loop-deadlock-init g c = puts_none c.args.out.now

pub loop-deadlock-preserved : goal.loop-deadlock-preserved
loop-deadlock-preserved g c =
    let n = c.args.end.now.at.netlist.now in
    let line = kept (keeps_deadlock n (selected c.args.selection)) (deadlock_line n) in
    puts_next line c.args.deadlocks.now c.loop-deadlock.deadlock-index c.deadlock-item.result c.loop-deadlock-test.true c.loop-deadlock.invariant
    (puts_text (ap line c.deadlock-item.is) c.in_ok-put_selected_deadlock.ensures)

pub returns-in_err-put_selected_deadlock : goal.returns-in_err-put_selected_deadlock
returns-in_err-put_selected_deadlock g c =
    let n = c.args.end.now.at.netlist.now in
    let keeps = keeps_deadlock n (selected c.args.selection) in
    writes_failed _ c.from_residual.ensures.0
    (puts_text (kept_lines keeps (deadlock_line n) c.args.deadlocks.now)
    (puts_stopped (kept keeps (deadlock_line n)) c.args.deadlocks.now c.loop-deadlock.deadlock-index c.deadlock-item.result c.loop-deadlock-test.true c.loop-deadlock.invariant
    (puts_text (ap (kept keeps (deadlock_line n)) c.deadlock-item.is) c.in_err-put_selected_deadlock.ensures)))

pub returns : goal.returns
returns g c =
    let n = c.args.end.now.at.netlist.now in
    let over : length c.args.deadlocks.now ≤ c.loop-deadlock.deadlock-index = omega arith in
    kept_over (keeps_deadlock n (selected c.args.selection)) (deadlock_line n) c.args.deadlocks.now c.loop-deadlock.deadlock-index over c.loop-deadlock.invariant
