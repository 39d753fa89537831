-- What is due in a unit of an evaluation that follows no other: each number is a wire whose wave is made here, or a delayed copy.
use Rattle.std.specs.Prelude.{◌≡◌, ℕ, ◌+◌, ◌<◌, Bool, true, false, List, ◌∷◌, All, Option, Some, is_some, length, ◌++◌, ◌&&◌, ◌||◌}
use Rattle.mp_records.specs.declared.ids.ModuleId.{ModuleId}
use Rattle.mp_records.specs.declared.module_record.ModuleRecord.{ModuleRecord}
use Rattle.mp_records.specs.Outputs.{delay_of}
use Rattle.mp_netlist.specs.declared.driver.Driver.{Driver}
use Rattle.mp_netlist.specs.declared.driver.Driver.TheVariants.{Nothing, Stimulus, Port}
use Rattle.mp_netlist.specs.Circuit.{Circuit, IsCircuit, module_at}
use Rattle.mp_netlist.specs.Drivers.{driver}
use Rattle.mp_modules.specs.automata.Codes.{bit}
use Rattle.mp_kernel.specs.declared.events.output_port.OutputPort.{OutputPort}
use Rattle.mp_kernel.specs.events.Adding.{listed}
use Rattle.mp_simulation.specs.declared.bits.simulator.Simulator.{Simulator}
use Rattle.mp_simulation.specs.bits.Changes.{change_at}
use Rattle.mp_simulation.specs.bits.Scopes.{Scope}
use Rattle.mp_simulation.specs.bits.Simulators.{next_slot}
use Rattle.mp_simulation.specs.bits.Units.{IsBefore, AreDue}
use Rattle.mp_simulation.specs.bits.Copies.{AreChained, HaveCopies, AreOriginals}

-- the number is a wire whose wave is made here, or a delayed copy
abbrev pub is_number : Scope → (ℕ → Option ℕ) → ℕ → Bool
is_number scope before x = scope.traces x || is_some (before x)

-- after t the wires whose waves are made here are heard at once, and their changes are made here; what drives them has answered long enough; and
-- active modules read these wires and delayed copies, which are of such
pub record IsWhole (n : Circuit) (scope : Scope) (before : ℕ → Option ℕ) (t : ℕ) : Type 0 where
  pub source : (w : ℕ) → scope.traces w ≡ true → scope.source w ≡ (w, 0)
  pub own : (w : ℕ) → scope.traces w ≡ true → scope.owns w (t + 1) ≡ true
  pub other : (w : ℕ) → scope.traces w ≡ false → scope.owns w (t + 1) ≡ false
  pub arrived : (w p : ℕ) (m : ModuleId) (r : ModuleRecord) → driver n w ≡ Port m p → module_at n m.0 ≡ Some r → scope.traces w ≡ true → t + 1 < scope.known m.0 + delay_of r p
  pub copies : (x y : ℕ) → before x ≡ Some y → (scope.traces x ≡ false) × (is_number scope before y ≡ true)
  pub inputs : (q : ℕ) → scope.is_active q ≡ true → All (λ x. is_number scope before x ≡ true) (scope.inputs q)

abbrev pub is_stimulus : Driver → Bool
is_stimulus Nothing = false
is_stimulus Stimulus = true
is_stimulus (Port m p) = false

-- the wires are listed that a stimulus changes at a time
abbrev pub AreSet : Circuit → Scope → List ℕ → ℕ → Type 0
AreSet n scope set time = (w : ℕ) → listed w set ≡ bit (change_at n w time && is_stimulus (driver n w) && scope.traces w)

-- then what is in the next slots of the wheel and of the copies' wheel, and what stimuli change, is all that changes in the unit after t
pub record IsAll (n : Circuit) (scope : Scope) (before : ℕ → Option ℕ) (t : ℕ) (wires slot : List ℕ) : Type 0 where
  pub due : AreDue n scope t wires slot
  pub originals : AreOriginals n scope.source before (slot ++ wires) (t + 1)

abbrev pub SlotsHaveAll : Type 0
SlotsHaveAll = (n : Circuit) → IsCircuit n → (scope : Scope) (before : ℕ → Option ℕ) (next : List OutputPort) (t : ℕ) (s : Simulator) (set slot : List ℕ) (rest : List (List ℕ)) →
    IsBefore n scope t s → 0 < length s.wheel → IsWhole n scope before t → AreSet n scope set (t + 1) → AreChained scope.source before next →
    HaveCopies n scope.source before next t (slot ∷ rest) → IsAll n scope before t (next_slot s ++ set) slot
