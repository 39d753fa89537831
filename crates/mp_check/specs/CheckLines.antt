-- What `check` writes.
use Rattle.std.specs.Prelude.{ℕ, List, [], ◌∷◌, ◌++◌, map, max, codes, Option, Some, None}
use Rattle.std.specs.List.{flat_map, fold}
use Rattle.std.specs.Fmt.{decimal}
use Rattle.mp_records.specs.declared.bundle_record.BundleRecord.{BundleRecord}
use Rattle.mp_netlist.specs.Circuit.{Circuit, bundle_at}
use Rattle.mp_model.specs.Waves.{level}
use Rattle.mp_text.specs.Written.{wire_name}
use Rattle.mp_questions.specs.timing.Events.{since}
use Rattle.mp_report.specs.Lines.{report_text}
use Rattle.mp_questions.specs.late.Lateness.{all_late}
use Rattle.mp_check.specs.Dead.{last_unit}
use Rattle.mp_check.specs.Deadlocks.{deadlocks}
use Rattle.mp_check.specs.Notes.{notes}
use Rattle.mp_check.specs.Selections.{module_name}
use Rattle.mp_questions.specs.declared.late.late.Late.{Late}
use Rattle.mp_check.specs.declared.wait.Wait.{Wait}

-- the line of late data, as `22 bundle b late 4`
abbrev pub late_text : Option BundleRecord → Late → List ℕ
late_text None l = []
late_text (Some b) l = decimal l.time ++ (codes " bundle " ++ (b.name ++ (codes " late " ++ (decimal l.units ++ (10 ∷ [])))))

abbrev pub late_line : Circuit → Late → List ℕ
late_line n l = late_text (bundle_at n l.bundle.0) l

-- a module and the wire that it waits for, as `c3 waits for q4`
abbrev pub wait_text : Circuit → Wait → List ℕ
wait_text n w = module_name n w.waiter.0 ++ (codes " waits for " ++ wire_name n w.wire)

-- the same behind a comma
abbrev pub next_text : Circuit → Wait → List ℕ
next_text n w = codes ", " ++ wait_text n w

-- what ports wait for, with commas between them
abbrev pub waits_text : Circuit → List Wait → List ℕ
waits_text n [] = []
waits_text n (w ∷ ws) = wait_text n w ++ flat_map (next_text n) ws

-- the last time at which one of the wires changed
abbrev pub stands_since : Circuit → List Wait → ℕ
stands_since n waits = fold max 0 (map (λ w. since (level n w.wire.0) (last_unit n)) waits)

-- the line of a deadlock, as `0 deadlock c3 waits for q4, c4 waits for q3`
abbrev pub deadlock_line : Circuit → List Wait → List ℕ
deadlock_line n waits = decimal (stands_since n waits) ++ (codes " deadlock " ++ (waits_text n waits ++ (10 ∷ [])))

-- all of it: the report, then what is late, the deadlocks, and the notes on wires and on bundles
unfoldable pub whole_check : Circuit → List ℕ
whole_check n = report_text n ++ (flat_map (late_line n) (all_late n) ++ (flat_map (deadlock_line n) (deadlocks n) ++ notes n))
