-- Data that are late.
use Rattle.std.specs.Prelude.{ℕ, ◌-◌, Bool, true, false, ◌==◌, ◌&&◌, ◌||◌, List, Option, Some, None, option_map, length, nat_lt, if◌then◌else◌}
use Rattle.std.specs.List.{filter_map, flat_map, list_any, range_with_len}
use Rattle.mp_modules.specs.Histories.{has_event}
use Rattle.mp_records.specs.declared.bundle_record.BundleRecord.{BundleRecord}
use Rattle.mp_netlist.specs.Circuit.{Circuit, bundle_at}
use Rattle.mp_model.specs.Waves.{level}
use Rattle.mp_questions.specs.declared.causes.wire_change.WireChange.{WireChange}
use Rattle.mp_questions.specs.causes.Changes.{change_at}
use Rattle.mp_questions.specs.timing.Events.{last_event}
use Rattle.mp_questions.specs.causes.Causes.{Cause, Outside, Start, Events, cause_of}
use Rattle.mp_questions.specs.late.Sources.{leads}
use Rattle.mp_questions.specs.declared.late.late.Late.{Late}

abbrev pub is_outside : Cause → Bool
is_outside Outside = true
is_outside (Start g) = false
is_outside (Events g es) = false

-- a change is the event of the wire w at r, or it is set from outside after r
abbrev pub is_excuse : Circuit → ℕ → ℕ → WireChange → Bool
is_excuse n w r c = (c.wire.0 == w && c.time == r) || (nat_lt r c.time && is_outside (cause_of n c))

-- an excuse leads to a change
abbrev pub is_excused : Circuit → ℕ → ℕ → WireChange → Bool
is_excused n w r c = list_any (is_excuse n w r) (leads n c)

-- how late the data of a bundle that change at t are behind a request: not at all where they have an excuse
abbrev pub units_behind : Circuit → BundleRecord → ℕ → Option ℕ → Option ℕ
units_behind n b t None = None
units_behind n b t (Some r) = if is_excused n b.request.0 r (change_at n b.payload t) then None else Some (t - r)

-- the same behind the last request before t, where they change at t at all
abbrev pub late_units : Circuit → BundleRecord → ℕ → Option ℕ
late_units n b t =
    if has_event (level n b.payload.0) t then units_behind n b t (last_event (level n b.request.0) (t - 1)) else None

abbrev pub late_by : ℕ → ℕ → ℕ → Late
late_by k t units = record { time = t; bundle = record { 0 = k }; units = units }

-- what is late at t at what stands in a bundle's slot
abbrev pub late_in : Circuit → ℕ → ℕ → Option BundleRecord → Option Late
late_in n t k None = None
late_in n t k (Some b) = option_map (late_by k t) (late_units n b t)

abbrev pub late_at : Circuit → ℕ → ℕ → Option Late
late_at n t k = late_in n t k (bundle_at n k)

-- all that is late: by time from 1 to one below the horizon, then by bundle
abbrev pub all_late : Circuit → List Late
all_late n = flat_map (λ t. filter_map (late_at n t) (range_with_len 0 (length n.bundles))) (range_with_len 1 (n.horizon - 1))
