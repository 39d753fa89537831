-- The critical cycle of wires that repeat: the causes that lead round a period.
use Rattle.std.specs.Prelude.{ℕ, ◌-◌, ◌%◌, Bool, true, false, not, ◌==◌, ◌&&◌, ◌||◌, List, [], ◌∷◌, ◌++◌, nat_lt, option_map, Option, Some, None, zero, suc, if◌then◌else◌}
use Rattle.std.specs.List.{find, list_any, sum_by}
use Rattle.std.specs.Option.{option_or}
use Rattle.mp_netlist.specs.Circuit.{Circuit}
use Rattle.mp_questions.specs.declared.causes.wire_change.WireChange.{WireChange}
use Rattle.mp_questions.specs.causes.Causes.{cause_of, followed}
use Rattle.mp_questions.specs.causes.Changes.{last_change}
use Rattle.mp_questions.specs.causes.Shares.{units_of}
use Rattle.mp_steady.specs.Periods.{events, last_unit}
use Rattle.mp_steady.specs.WireSets.{has_events}

-- a change so many periods later that it lies in the last one
abbrev pub in_last : Circuit → ℕ → WireChange → WireChange
in_last n units c = record { wire = c.wire; time = last_unit n - (last_unit n - c.time) % units; level = c.level }

-- the change behind a change: the first event of its cause, in the last period
abbrev pub behind : Circuit → ℕ → WireChange → Option WireChange
behind n units c = option_map (in_last n units) (followed (cause_of n c))

-- a change, the one behind it, and so on: at most so many
abbrev pub way_from : Circuit → ℕ → ℕ → Option WireChange → List WireChange
way_from n units zero next = []
way_from n units (suc count) None = []
way_from n units (suc count) (Some c) = c ∷ way_from n units count (behind n units c)

-- two changes of one wire at one time
abbrev pub is_place : WireChange → WireChange → Bool
is_place c d = c.wire.0 == d.wire.0 && c.time == d.time

-- the changes from a certain one on
abbrev pub from_place : WireChange → List WireChange → List WireChange
from_place c [] = []
from_place c (d ∷ ds) = if is_place c d then d ∷ ds else from_place c ds

-- what a way goes round: from the first change that comes a second time until it comes again; none where none does
abbrev pub round_of : List WireChange → List WireChange → List WireChange
round_of before [] = []
round_of before (c ∷ way) = if list_any (is_place c) before then from_place c before else round_of (before ++ c ∷ []) way

-- a wire changes in the last period, and where only narrow ones count has width 1
abbrev pub is_moving : Circuit → ℕ → Bool → ℕ → Bool
is_moving n units narrow w = (not narrow || has_events n w) && nat_lt 0 (events n units w)

-- the first wire of width 1 with events, where none has the first of any width
abbrev pub first_wire : Circuit → ℕ → List ℕ → Option ℕ
first_wire n units wires = option_or (find (is_moving n units true) wires) (find (is_moving n units false) wires)

abbrev pub last_of : Circuit → Option ℕ → Option WireChange
last_of n None = None
last_of n (Some w) = last_change n (record { 0 = w }) (last_unit n)

-- among how many changes a cycle is looked for
unfoldable pub most_places : ℕ
most_places = 4294967295

-- the critical cycle, from the last change of the first wire on
unfoldable pub cycle : Circuit → List ℕ → ℕ → List WireChange
cycle n wires units = round_of [] (way_from n units most_places (last_of n (first_wire n units wires)))

-- the units of all its steps
abbrev pub cycle_length : Circuit → List WireChange → ℕ
cycle_length n changes = sum_by (units_of n) changes
