-- Where the time of a chain went.
use Rattle.std.specs.Prelude.{ℕ, ◌-◌, Bool, false, ◌==◌, ◌&&◌, List, [], ◌∷◌, map, filter, length, max, nat_lt, Option, Some, None, if◌then◌else◌}
use Rattle.std.specs.List.{sum_by, range_with_len}
use Rattle.mp_netlist.specs.Circuit.{Circuit}
use Rattle.mp_questions.specs.declared.causes.wire_change.WireChange.{WireChange}
use Rattle.mp_questions.specs.declared.causes.module_share.ModuleShare.{ModuleShare}
use Rattle.mp_questions.specs.causes.Causes.{DrivingPort, cause_of, followed, port_of}

-- the time of the change that is followed, 0 where there is none
abbrev pub time_of : Option WireChange → ℕ
time_of None = 0
time_of (Some c) = c.time

-- how many units a change came after what it follows
abbrev pub units_of : Circuit → WireChange → ℕ
units_of n c = c.time - time_of (followed (cause_of n c))

abbrev pub is_port_of : ℕ → Option DrivingPort → Bool
is_port_of m None = false
is_port_of m (Some g) = g.id.0 == m

-- whether a change comes from the module of this number
abbrev pub is_step_in : Circuit → ℕ → WireChange → Bool
is_step_in n m c = is_port_of m (port_of (cause_of n c))

-- the changes that come from a module
abbrev pub steps_in : Circuit → ℕ → List WireChange → List WireChange
steps_in n m changes = filter (is_step_in n m) changes

-- how many units of some changes passed in a module, and in how many steps
abbrev pub share : Circuit → List WireChange → ℕ → ModuleShare
share n changes m = record { id = record { 0 = m }; units = sum_by (units_of n) (steps_in n m changes); steps = length (steps_in n m changes) }

-- each module has its share, by number
abbrev pub shares : Circuit → List WireChange → List ModuleShare
shares n changes = map (share n changes) (range_with_len 0 (length n.modules))

-- ---- above a time

-- of the units that a change came after what it follows, those above a time
abbrev pub units_above : Circuit → ℕ → WireChange → ℕ
units_above n from c = c.time - max from (time_of (followed (cause_of n c)))

-- the changes above a time that come from a module
abbrev pub steps_above : Circuit → ℕ → ℕ → List WireChange → List WireChange
steps_above n from m changes = filter (λ c. nat_lt from c.time && is_step_in n m c) changes

-- how many units above a time passed in a module, and in how many steps
abbrev pub share_above : Circuit → ℕ → List WireChange → ℕ → ModuleShare
share_above n from changes m =
    record { id = record { 0 = m }; units = sum_by (units_above n from) (steps_above n from m changes); steps = length (steps_above n from m changes) }

abbrev pub shares_above : Circuit → ℕ → List WireChange → List ModuleShare
shares_above n from changes = map (share_above n from changes) (range_with_len 0 (length n.modules))

-- ---- in their order

-- whether a module has a share
abbrev pub has_steps : ModuleShare → Bool
has_steps s = nat_lt 0 s.steps

-- a share behind those with more units
abbrev pub placed : ModuleShare → List ModuleShare → List ModuleShare
placed s [] = s ∷ []
placed s (other ∷ others) = if nat_lt s.units other.units then other ∷ placed s others else s ∷ other ∷ others

-- shares that come by number, by their units: the most first, and of equal ones the lesser number
abbrev pub by_units : List ModuleShare → List ModuleShare
by_units [] = []
by_units (s ∷ others) = placed s (by_units others)
