use Rattle.std.proofs.Common.{◌≤◌, length, arith}
use Rattle.mp_streams.proofs.OutLemmas.{puts_none, puts_next, puts_stopped, writes_failed}
use Rattle.mp_questions.proofs.lemmas.causes.WhyLemmas.{puts_text}
use Rattle.mp_questions.specs.declared.late.late.Late.{Late}
use Rattle.mp_check.specs.CheckLines.{late_line}
use Rattle.mp_check.specs.Selections.{keeps_late, selected}
use Rattle.mp_check.proofs.SelectedLemmas.{kept, kept_lines, kept_over}
use Rattle.mp_check.proofs.selected.put_all_late.Goals as goal

abbrev none : Late
none = record { time = 0; bundle = record { 0 = 0 }; units = 0 }

pub loop-one-init : goal.loop-one-init
loop-one-init g c = puts_none c.args.out.now

pub loop-one-preserved : goal.loop-one-preserved
loop-one-preserved g c =
    let n = c.args.netlist.now in
    puts_next (kept (keeps_late n (selected c.args.selection)) (late_line n)) _ c.loop-one.one-index none c.loop-one-test.true c.loop-one.invariant c.in_ok-put_selected_late.ensures

pub returns-in_err-put_selected_late : goal.returns-in_err-put_selected_late
returns-in_err-put_selected_late g c =
    let n = c.args.netlist.now in
    let keeps = keeps_late n (selected c.args.selection) in
    writes_failed _ c.from_residual.ensures.0
    (puts_text (kept_lines keeps (late_line n) c.args.late.now)
    (puts_stopped (kept keeps (late_line n)) _ c.loop-one.one-index none c.loop-one-test.true c.loop-one.invariant c.in_err-put_selected_late.ensures))

pub returns : goal.returns
returns g c =
    let n = c.args.netlist.now in
    let over : length c.args.late.now ≤ c.loop-one.one-index = omega arith in
    kept_over (keeps_late n (selected c.args.selection)) (late_line n) c.args.late.now c.loop-one.one-index over c.loop-one.invariant
