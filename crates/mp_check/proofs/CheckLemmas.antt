-- The parts of what `check` writes, each over what was found.
use Rattle.std.proofs.Common.{◌≡◌, ◌++◌, ℕ, List, ap, filter, flat_map}
use Rattle.mp_netlist.specs.Circuit.{Circuit}
use Rattle.mp_model.specs.Findings.{findings}
use Rattle.mp_model.specs.declared.finding.Finding.{Finding}
use Rattle.mp_questions.specs.late.Lateness.{all_late}
use Rattle.mp_questions.specs.declared.late.late.Late.{Late}
use Rattle.mp_check.specs.CheckLines.{late_line, deadlock_line}
use Rattle.mp_check.specs.CheckTexts.{selected_deadlocks, selected_findings, selected_late, selected_notes, selected_report}
use Rattle.mp_check.specs.Deadlocks.{deadlocks}
use Rattle.mp_check.specs.Selections.{Selected, keeps_deadlock, keeps_late}
use Rattle.mp_check.specs.declared.wait.Wait.{Wait}

module _ (n : Circuit) (s : Selected) where
  pub report_are : {found : List Finding} → found ≡ findings n → selected_findings n s found ≡ selected_report n s
  unfolding selected_report
  report_are {found = found} are = ap (selected_findings n s) are

  pub late_are : {late : List Late} → late ≡ all_late n → flat_map (late_line n) (filter (keeps_late n s) late) ≡ selected_late n s
  late_are {late = late} are = ap (λ (ls : List Late). flat_map (late_line n) (filter (keeps_late n s) ls)) are

  pub deadlocks_are : {found : List (List Wait)} → found ≡ deadlocks n → flat_map (deadlock_line n) (filter (keeps_deadlock n s) found) ≡ selected_deadlocks n s
  deadlocks_are {found = found} are = ap (λ (ds : List (List Wait)). flat_map (deadlock_line n) (filter (keeps_deadlock n s) ds)) are

-- what is written behind findings and late data
abbrev pub rest_at : Selected → Circuit → List ℕ
rest_at s n = selected_deadlocks n s ++ selected_notes n s
