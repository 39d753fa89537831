-- Ports whose wires never change again.
use Rattle.std.specs.Prelude.{◌≡◌, ℕ, ◌+◌, ◌*◌, ◌-◌, ◌/◌, ◌%◌, Bool, true, false, ◌&&◌, List, Option, Some, None, is_some, length, nat_le, slice_get}
use Rattle.std.specs.List.{list_all, list_any}
use Rattle.mp_records.specs.declared.module_record.ModuleRecord.{ModuleRecord}
use Rattle.mp_records.specs.declared.ports.Input.{Input}
use Rattle.mp_records.specs.Outputs.{output_at, delay_of}
use Rattle.mp_netlist.specs.declared.driver.Driver.{Driver}
use Rattle.mp_netlist.specs.declared.driver.Driver.TheVariants.{Nothing, Stimulus, Port}
use Rattle.mp_netlist.specs.Circuit.{Circuit, module_at}
use Rattle.mp_netlist.specs.Drivers.{driver}
use Rattle.mp_model.specs.Waves.{level, state}
use Rattle.mp_questions.specs.timing.Events.{since}
use Rattle.mp_questions.specs.timing.Waits.{given}
use Rattle.mp_holding.specs.sets.Marks.{is_marked}
use Rattle.mp_holding.specs.sets.ClosedSets.{in_closed_set}
use Rattle.mp_holding.specs.Holding.{holding_sets}

-- ---- ports by number: by module, then port

-- how many numbers of ports there are for each module
abbrev pub port_numbers : ℕ
port_numbers = 3

abbrev pub port_number : ℕ → ℕ → ℕ
port_number m p = port_numbers * m + p

-- how many numbers there are
abbrev pub port_slots : Circuit → ℕ
port_slots n = port_numbers * length n.modules

-- ---- what stays

-- the last unit
abbrev pub last_unit : Circuit → ℕ
last_unit n = n.horizon - 1

-- a level has no event later than a time, up to the last unit
abbrev pub is_still : Circuit → (ℕ → ℕ) → ℕ → Bool
is_still n f t = nat_le (since f (last_unit n)) t

-- what an output gives has been the same for its whole delay, so no change is on its way to its wire
abbrev pub is_quiet : Circuit → ℕ → ℕ → ℕ → Bool
is_quiet n m p delay = nat_le delay (last_unit n) && is_still n (given n m p) (last_unit n - delay)

-- a port of a set drives a wire, or nothing does
abbrev pub is_driven_within : (ℕ → Bool) → Driver → Bool
is_driven_within dead Nothing = true
is_driven_within dead Stimulus = false
is_driven_within dead (Port m p) = dead (port_number m.0 p)

-- an input never has an event again, if no port of a set ever has one: no change of its wire is on its way, and none can come
abbrev pub is_still_in : Circuit → (ℕ → Bool) → Option Input → Bool
is_still_in n dead None = false
is_still_in n dead (Some i) = is_still n (level n i.wire.0) (last_unit n - i.delay) && is_driven_within dead (driver n i.wire.0)

abbrev pub are_still : Circuit → (ℕ → Bool) → ModuleRecord → List ℕ → Bool
are_still n dead r inputs = list_all (λ q. is_still_in n dead (slice_get r.inputs q)) inputs

-- ---- dead ports

abbrev pub is_kept_at : Circuit → (ℕ → Bool) → ℕ → ℕ → Option ModuleRecord → Bool
is_kept_at n dead m p None = false
is_kept_at n dead m p (Some r) =
    is_some (output_at r p).wire && is_quiet n m p (delay_of r p) && list_any (are_still n dead r) (holding_sets r.kind r.params (state n m (last_unit n)) p)

-- a set of ports keeps a port: it stands on a wire, is quiet, and inputs hold it that are still as long as the ports of the set are
unfoldable pub is_kept : Circuit → (ℕ → Bool) → ℕ → Bool
is_kept n dead k = is_kept_at n dead (k / port_numbers) (k % port_numbers) (module_at n (k / port_numbers))

-- the union of all sets of ports that keep their members: the greatest of these
abbrev pub dead : Circuit → ℕ → Bool
dead n k = in_closed_set (is_kept n) (port_slots n) k

-- marks of the dead ports
abbrev pub AreDead : Circuit → List Bool → Type 0
AreDead n marks = (k : ℕ) → is_marked marks k ≡ dead n k
