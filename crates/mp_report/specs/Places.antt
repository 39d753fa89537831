-- What is found at one place.
use Rattle.std.specs.Prelude.{◌-◌}
use Rattle.mp_report.specs.Names.{filter, flat_map, range_with_len, FindingCode, by_number, Circuit, Place, Finding, is_found, ℕ, List, map}

-- the codes that are found at a place at a time, by number, each with the time
abbrev pub codes_at : Circuit → Place → ℕ → List (ℕ × FindingCode)
codes_at n place t = map (λ code. (t, code)) (filter (is_found n place t) by_number)

-- what is found at a place at all times
unfoldable pub found_over : Circuit → Place → List (ℕ × FindingCode)
found_over n place = flat_map (codes_at n place) (range_with_len 1 (n.horizon - 1))

abbrev pub finding_at : Place → ℕ × FindingCode → Finding
finding_at place found = record { time = found.0; place = place; code = found.1 }

-- what is found at these places, place by place
abbrev pub found_by_place : Circuit → List Place → List Finding
found_by_place n places = flat_map (λ place. map (finding_at place) (found_over n place)) places
