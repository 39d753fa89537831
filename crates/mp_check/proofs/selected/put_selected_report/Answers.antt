use Rattle.std.proofs.Common.{◌≤◌, length, arith}
use Rattle.mp_streams.proofs.OutLemmas.{puts_none, puts_next, puts_stopped, writes_failed}
use Rattle.mp_modules.specs.declared.finding_code.FindingCode.TheVariants.{MergeCollision}
use Rattle.mp_model.specs.Findings.{module_place}
use Rattle.mp_model.specs.declared.finding.Finding.{Finding}
use Rattle.mp_report.specs.Lines.{finding_line}
use Rattle.mp_questions.proofs.lemmas.causes.WhyLemmas.{puts_text}
use Rattle.mp_check.specs.Selections.{keeps_finding, selected}
use Rattle.mp_check.proofs.SelectedLemmas.{kept, kept_lines, kept_over}
use Rattle.mp_check.proofs.selected.put_selected_report.Goals as goal

abbrev none : Finding
none = record { time = 0; place = module_place 0; code = MergeCollision }

pub loop-finding-init : goal.loop-finding-init
loop-finding-init g c = puts_none c.args.out.now

pub loop-finding-preserved : goal.loop-finding-preserved
loop-finding-preserved g c =
    let n = c.args.netlist.now in
    puts_next (kept (keeps_finding n (selected c.args.selection)) (finding_line n)) _ c.loop-finding.finding-index none c.loop-finding-test.true c.loop-finding.invariant c.in_ok-put_finding.ensures

pub returns-in_err-put_finding : goal.returns-in_err-put_finding
returns-in_err-put_finding g c =
    let n = c.args.netlist.now in
    let keeps = keeps_finding n (selected c.args.selection) in
    writes_failed _ c.from_residual.ensures.0
    (puts_text (kept_lines keeps (finding_line n) c.args.findings.now)
    (puts_stopped (kept keeps (finding_line n)) _ c.loop-finding.finding-index none c.loop-finding-test.true c.loop-finding.invariant c.in_err-put_finding.ensures))

pub returns : goal.returns
returns g c =
    let n = c.args.netlist.now in
    let over : length c.args.findings.now ≤ c.loop-finding.finding-index = omega arith in
    kept_over (keeps_finding n (selected c.args.selection)) (finding_line n) c.args.findings.now c.loop-finding.finding-index over c.loop-finding.invariant
