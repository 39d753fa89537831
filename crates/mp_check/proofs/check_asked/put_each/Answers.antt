use Rattle.std.proofs.Common.{◌∙◌}
use Rattle.mp_streams.proofs.OutLemmas.{puts_then, puts_sooner, writes_failed}
use Rattle.mp_questions.proofs.lemmas.causes.WhyLemmas.{puts_text}
use Rattle.mp_check.specs.CheckTexts.{selected_late}
use Rattle.mp_check.specs.Selections.{selected}
use Rattle.mp_check.proofs.CheckLemmas.{late_are, report_are}
use Rattle.mp_check.proofs.check_asked.put_each.Goals as goal

pub returns-in_err-put_selected_report : goal.returns-in_err-put_selected_report
returns-in_err-put_selected_report g c =
    let n = c.args.netlist.now in
    let s = selected c.args.selection in
    writes_failed _ c.from_residual.ensures.0
    (puts_sooner (selected_late n s) (puts_text (report_are n s (c.as_slice.ensures.value ∙ c.requires.findings_are)) c.in_err-put_selected_report.ensures))

pub returns : goal.returns
returns g c =
    let n = c.args.netlist.now in
    let s = selected c.args.selection in
    puts_then (puts_text (report_are n s (c.as_slice.ensures.value ∙ c.requires.findings_are)) c.in_ok-put_selected_report.ensures)
    (puts_text (late_are n s (c.as_slice-2.ensures.value ∙ c.requires.late_are)) c.put_all_late.ensures)
