-- What is written of a selection.
use Rattle.std.specs.Prelude.{ℕ, Bool, ◌||◌, List, [], ◌++◌, filter, length, if◌then◌else◌}
use Rattle.std.specs.List.{flat_map, list_any, range_with_len}
use Rattle.mp_netlist.specs.Circuit.{Circuit}
use Rattle.mp_model.specs.Findings.{findings}
use Rattle.mp_model.specs.declared.finding.Finding.{Finding}
use Rattle.mp_report.specs.Lines.{finding_lines}
use Rattle.mp_questions.specs.late.Lateness.{all_late}
use Rattle.mp_check.specs.Briefs.{brief_lines}
use Rattle.mp_check.specs.CheckLines.{late_line, deadlock_line}
use Rattle.mp_check.specs.Deadlocks.{deadlocks}
use Rattle.mp_check.specs.Notes.{wire_notes}
use Rattle.mp_check.specs.Over.{busy_note, is_over}
use Rattle.mp_check.specs.Selections.{Selected, has_none, keeps_finding, keeps_late, keeps_deadlock, keeps_bundle}

-- the lines of some findings
abbrev pub selected_findings : Circuit → Selected → List Finding → List ℕ
selected_findings n s found = finding_lines n (filter (keeps_finding n s) found)

-- those of the report
unfoldable pub selected_report : Circuit → Selected → List ℕ
selected_report n s = selected_findings n s (findings n)

abbrev pub selected_late : Circuit → Selected → List ℕ
selected_late n s = flat_map (late_line n) (filter (keeps_late n s) (all_late n))

abbrev pub selected_deadlocks : Circuit → Selected → List ℕ
selected_deadlocks n s = flat_map (deadlock_line n) (filter (keeps_deadlock n s) (deadlocks n))

-- the notes on bundles
abbrev pub selected_bundle_notes : Circuit → Selected → List ℕ
selected_bundle_notes n s = if is_over n then flat_map (busy_note n) (filter (keeps_bundle n s) (range_with_len 0 (length n.bundles))) else []

-- the notes on wires where no names are asked for, and then those on bundles
abbrev pub selected_notes : Circuit → Selected → List ℕ
selected_notes n s = (if has_none s.names then wire_notes n else []) ++ selected_bundle_notes n s

-- what is found and what is late: a line each, or in brief
abbrev pub problem_lines : Circuit → Selected → Bool → List ℕ
problem_lines n s brief = if brief then brief_lines n s else selected_report n s ++ selected_late n s

-- then the deadlocks and the notes
unfoldable pub check_text : Circuit → Selected → Bool → List ℕ
check_text n s brief = problem_lines n s brief ++ (selected_deadlocks n s ++ selected_notes n s)

-- more than notes is written
abbrev pub is_wrong : Circuit → Selected → Bool
is_wrong n s = (list_any (keeps_finding n s) (findings n) || list_any (keeps_late n s) (all_late n)) || list_any (keeps_deadlock n s) (deadlocks n)
