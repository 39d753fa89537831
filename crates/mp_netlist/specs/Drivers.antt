-- What drives a wire.
use Rattle.std.specs.Prelude.{◌≡◌, ℕ, ◌+◌, Bool, true, false, ◌&&◌, List, [], ◌∷◌, Option, Some, None, ◌==◌, if◌then◌else◌}
use Rattle.mp_records.specs.declared.ids.ModuleId.{ModuleId}
use Rattle.mp_records.specs.declared.module_record.ModuleRecord.{ModuleRecord}
use Rattle.mp_records.specs.declared.ports.Output.{Output}
use Rattle.mp_records.specs.NamedWires.{is_wire}
use Rattle.mp_netlist.specs.declared.driver.Driver.{Driver}
use Rattle.mp_netlist.specs.declared.driver.Driver.TheVariants.{Nothing, Stimulus, Port}
use Rattle.mp_netlist.specs.Circuit.{Circuit, IsCircuit, Drives, wire_at, stimulus_at}

-- the first port, counted from p on, that has the wire as its output
abbrev pub port_from : ℕ → List Output → ℕ → Option ℕ
port_from p [] w = None
port_from p (o ∷ os) w = if is_wire o.wire w then Some p else port_from (p + 1) os w

abbrev pub port_of : Option ModuleRecord → ℕ → Option ℕ
port_of None w = None
port_of (Some r) w = port_from 0 r.outputs w

abbrev pub or_later : Option ℕ → ℕ → Driver → Driver
or_later None m later = later
or_later (Some p) m later = Port (record { 0 = m }) p

-- the first module, counted from m on, with the port that has the wire as its output, or else another driver
abbrev pub driver_from : ℕ → List (Option ModuleRecord) → ℕ → Driver → Driver
driver_from m [] w other = other
driver_from m (slot ∷ slots) w other = or_later (port_of slot w) m (driver_from (m + 1) slots w other)

-- the driver of a wire that no port drives
abbrev pub stimulus_driver : Option (List (ℕ × ℕ)) → Driver
stimulus_driver None = Nothing
stimulus_driver (Some changes) = Stimulus

-- the module and port that have the wire as output, or the wire's stimulus, or nothing
unfoldable pub driver : Circuit → ℕ → Driver
driver n w = driver_from 0 n.modules w (stimulus_driver (stimulus_at n w))

abbrev pub is_port : Driver → Bool
is_port Nothing = false
is_port Stimulus = false
is_port (Port m p) = true

abbrev pub is_nothing : Driver → Bool
is_nothing Nothing = true
is_nothing Stimulus = false
is_nothing (Port m p) = false

-- nothing drives the wire, or just that port of that module
abbrev pub is_free_for : ℕ → ℕ → Driver → Bool
is_free_for m p Nothing = true
is_free_for m p Stimulus = false
is_free_for m p (Port k q) = k.0 == m && q == p

-- a port that has a wire as its output is the wire's driver
abbrev pub FindsPorts : Type 0
FindsPorts = (n : Circuit) → IsCircuit n → (m p w : ℕ) → Drives n m p w → driver n w ≡ Port (record { 0 = m }) p

-- a port that is a wire's driver has it as its output
abbrev pub FindsOnlyPorts : Type 0
FindsOnlyPorts = (n : Circuit) (w p : ℕ) (m : ModuleId) → driver n w ≡ Port m p → Drives n m.0 p w

-- nothing drives a wire that was never added, or that was removed
abbrev pub LeavesNoDriver : Type 0
LeavesNoDriver = (n : Circuit) → IsCircuit n → (w : ℕ) → wire_at n w ≡ None → driver n w ≡ Nothing
