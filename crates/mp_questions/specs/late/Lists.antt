-- What is late, bundle by bundle.
use Rattle.std.specs.Prelude.{ℕ, ◌&&◌, List, map, nat_le, nat_lt, Option, Some, None, if◌then◌else◌}
use Rattle.mp_netlist.specs.Circuit.{Circuit}
use Rattle.mp_questions.specs.declared.late.late.Late.{Late}
use Rattle.mp_questions.specs.late.Searching.{bundle_numbers, late_over}

-- a list for each bundle by number, with what is late at it by time
abbrev pub late_lists : Circuit → List (List Late)
late_lists n = map (late_over n) (bundle_numbers n)

-- the units of what is late, if that is at a time from one on and before another
abbrev pub units_within : ℕ → ℕ → Late → Option ℕ
units_within from to l = if nat_le from l.time && nat_lt l.time to then Some l.units else None
