-- What the wheels of a simulation have before the unit 1: modules are settled, and no wire has changed.
use Rattle.std.specs.Prelude.{◌≡◌, ℕ, ◌+◌, ◌<◌, Bool, false, not, List, [], Option, length, slice_index_or, ◌==◌, ◌&&◌}
use Rattle.mp_modules.specs.Memories.{output_of}
use Rattle.mp_records.specs.declared.ids.ModuleId.{ModuleId}
use Rattle.mp_netlist.specs.declared.driver.Driver.{Driver}
use Rattle.mp_netlist.specs.declared.driver.Driver.TheVariants.{Nothing, Stimulus, Port}
use Rattle.mp_netlist.specs.Circuit.{Circuit, IsCircuit, wire_at, module_at}
use Rattle.mp_netlist.specs.Drivers.{driver}
use Rattle.mp_model.specs.Evaluations.{delay_in}
use Rattle.mp_model.specs.Levels.{initial_of}
use Rattle.mp_model.specs.Waves.{state}
use Rattle.mp_modules.specs.automata.Codes.{bit}
use Rattle.mp_kernel.specs.declared.events.output_port.OutputPort.{OutputPort}
use Rattle.mp_kernel.specs.events.Adding.{listed}
use Rattle.mp_simulation.specs.declared.bits.simulator.Simulator.{Simulator}
use Rattle.mp_simulation.specs.bits.Scopes.{Scope}
use Rattle.mp_simulation.specs.bits.Simulators.{slot_at}
use Rattle.mp_simulation.specs.bits.Units.{HaveEvents}
use Rattle.mp_simulation.specs.bits.Copies.{AreChained, HaveCopies}

-- the first change of a wire is at a time: the delay of the port that drives it, where the settled output isn't the wire's initial level
abbrev pub is_first : Circuit → Driver → ℕ → ℕ → Bool
is_first n Nothing w time = false
is_first n Stimulus w time = false
is_first n (Port m p) w time = delay_in (module_at n m.0) p == time && not (initial_of (wire_at n w) == output_of (state n m.0 0) p)

-- each wire whose changes are made here is in the slot of its first change, once
abbrev pub HaveFirst : Circuit → Scope → Simulator → Type 0
HaveFirst n scope s = (w k : ℕ) → k < length s.wheel → listed w (slot_at s k) ≡ bit (is_first n (driver n w) w (k + 1) && scope.owns w (k + 1))

-- then the wheel has what is known once each module is settled
abbrev pub FirstAreKnown : Type 0
FirstAreKnown = (n : Circuit) → IsCircuit n → (scope : Scope) (s : Simulator) → ((w p : ℕ) (m : ModuleId) → driver n w ≡ Port m p → scope.known m.0 ≡ 1) →
    HaveFirst n scope s → HaveEvents n scope 0 s

-- and no copy has a change to come
abbrev pub NoCopiesAtFirst : Type 0
NoCopiesAtFirst = (n : Circuit) (source : ℕ → ℕ × ℕ) (before : ℕ → Option ℕ) (next : List OutputPort) (slots : List (List ℕ)) → AreChained source before next →
    ((k : ℕ) → slice_index_or slots k [] ≡ []) → HaveCopies n source before next 0 slots
