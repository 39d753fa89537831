-- A search that goes back from a change, and what it has still to look at.
use Rattle.std.specs.Prelude.{ℕ, ◌+◌, ◌*◌, ◌/◌, ◌%◌, ◌-◌, Bool, List, Option, Some, None, option_map, map, length, nat_lt, if◌then◌else◌}
use Rattle.std.specs.BTreeSet.{insert_key}
use Rattle.std.specs.Ordering.{nat_cmp}
use Rattle.std.specs.List.{list_any, filter_map, range_with_len}
use Rattle.mp_modules.specs.declared.kind.Kind.{Kind}
use Rattle.mp_records.specs.declared.ports.Input.{Input}
use Rattle.mp_records.specs.declared.ids.BundleId.{BundleId}
use Rattle.mp_records.specs.declared.bundle_record.BundleRecord.{BundleRecord}
use Rattle.mp_netlist.specs.Circuit.{Circuit}
use Rattle.mp_model.specs.Waves.{level}
use Rattle.mp_questions.specs.declared.causes.wire_change.WireChange.{WireChange}
use Rattle.mp_questions.specs.causes.Changes.{change_at, last_change}
use Rattle.mp_questions.specs.timing.Events.{last_event}
use Rattle.mp_questions.specs.causes.Causes.{hears, event_at}
use Rattle.mp_questions.specs.late.Sources.{has_memory}
use Rattle.mp_questions.specs.late.Lateness.{is_excused, late_at, late_by, units_behind}
use Rattle.mp_questions.specs.declared.late.late.Late.{Late}

-- how many numbers there are for the wires of one time
abbrev pub wire_numbers : ℕ
wire_numbers = 4294967296

-- a time and a wire as one number
abbrev pub key : ℕ → ℕ → ℕ
key t w = t * wire_numbers + w

-- the change that a number stands for
abbrev pub change_by : Circuit → ℕ → WireChange
change_by n k = change_at n (record { 0 = k % wire_numbers }) (k / wire_numbers)

-- one of the changes has an excuse
abbrev pub any_excused : Circuit → ℕ → ℕ → List ℕ → Bool
any_excused n w r keys = list_any (λ k. is_excused n w r (change_by n k)) keys

-- the change that an input heard at a time, or with memory the last one up to it
abbrev pub source_at : Circuit → Kind → ℕ → Input → Option WireChange
source_at n kind u i =
    if has_memory kind then last_change n i.wire (u - i.delay)
    else (if hears n u i then Some (event_at n u i).change else None)

-- a time, if it isn't before another
abbrev pub from_on : ℕ → Option ℕ → Option ℕ
from_on from None = None
from_on from (Some t) = if nat_lt t from then None else Some t

-- the numbers of changes in order, with that of a wire at a time, if there is one
abbrev pub with_key : List ℕ → ℕ → Option ℕ → List ℕ
with_key keys w None = keys
with_key keys w (Some t) = insert_key nat_cmp keys (key t w)

-- ---- what is late at one bundle

-- where the data of a bundle change at t: whether they are late
abbrev pub late_then : Circuit → ℕ → BundleRecord → ℕ → Option Late
late_then n k b t = option_map (late_by k t) (units_behind n b t (last_event (level n b.request.0) (t - 1)))

-- the numbers of all bundles
abbrev pub bundle_numbers : Circuit → List BundleId
bundle_numbers n = map (λ k. record { 0 = k }) (range_with_len 0 (length n.bundles))

-- what is late at a bundle at all times
unfoldable pub late_over : Circuit → BundleId → List Late
late_over n id = filter_map (λ t. late_at n t id.0) (range_with_len 1 (n.horizon - 1))
