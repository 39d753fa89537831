-- Simulators with the delayed copies that they read, in an evaluation that follows no other.
use Rattle.std.specs.Prelude.{◌≡◌, ℕ, ◌+◌, ◌<◌, ◌≤◌, List, [], All, Option, Some, length, slice_index_or}
use Rattle.mp_kernel.specs.declared.events.output_port.OutputPort.{OutputPort}
use Rattle.mp_netlist.specs.Circuit.{Circuit, IsCircuit}
use Rattle.mp_kernel.specs.events.EventWheels.{AreEmpty}
use Rattle.mp_kernel.specs.events.Firing.{HasSlot}
use Rattle.mp_simulation.specs.declared.bits.delayed_copies.DelayedCopies.{DelayedCopies}
use Rattle.mp_simulation.specs.declared.bits.simulation.Simulation.{Simulation}
use Rattle.mp_simulation.specs.bits.Scopes.{Scope, with_answers}
use Rattle.mp_simulation.specs.bits.Simulators.{next_slot, IsBelow, IsSound, CanApply}
use Rattle.mp_simulation.specs.bits.Units.{IsBefore, IsDuring}
use Rattle.mp_simulation.specs.bits.Copies.{AreChained, HaveCopies, AreListedBelow}
use Rattle.mp_simulation.specs.bits.WholeRuns.{IsWhole, AreSet}

abbrev pub copy_slot : DelayedCopies → ℕ → List ℕ
copy_slot copies k = slice_index_or copies.wheel k []

-- there are so many numbers of wires and copies; the wheel has a slot for each time from one copy to the next, and only such numbers
pub record AreSoundCopies (numbers : ℕ) (copies : DelayedCopies) : Type 0 where
  pub next : length copies.next.items ≡ numbers
  pub some : 0 < length copies.wheel
  pub within : All (HasSlot (length copies.wheel)) copies.next.items
  pub below : All (IsBelow numbers) copies.next.items
  pub numbered : AreListedBelow numbers copies.wheel

abbrev pub IsFrom : ℕ → OutputPort → Type 0
IsFrom wires port = (x : ℕ) → port.wire ≡ Some x → wires ≤ x

-- the numbers of copies are behind those of wires
pub record IsSoundRun (s : Simulation) : Type 0 where
  pub simulator : IsSound s.simulator
  pub copies : AreSoundCopies (length s.simulator.fanout) s.copies
  pub behind : All (IsFrom (length s.simulator.waves)) s.copies.next.items

-- nothing changes in the next unit that isn't set from outside
pub record IsQuiet (s : Simulation) : Type 0 where
  pub wires : next_slot s.simulator ≡ []
  pub copies : copy_slot s.copies 0 ≡ []

-- nothing changes in any unit to come that isn't set from outside
pub record IsIdle (s : Simulation) : Type 0 where
  pub wires : AreEmpty s.simulator.wheel
  pub copies : AreEmpty s.copies.wheel

-- the unit t is over
pub record IsRunning (n : Circuit) (scope : Scope) (before : ℕ → Option ℕ) (t : ℕ) (s : Simulation) : Type 0 where
  pub simulator : IsBefore n scope t s.simulator
  pub chained : AreChained scope.source before s.copies.next.items
  pub copies : HaveCopies n scope.source before s.copies.next.items t s.copies.wheel

-- all events of the unit after t have been heard, and no module has fired
pub record HasHeard (n : Circuit) (scope : Scope) (before : ℕ → Option ℕ) (t : ℕ) (s : Simulation) : Type 0 where
  pub simulator : IsDuring n scope t s.simulator
  pub chained : AreChained scope.source before s.copies.next.items
  pub copies : HaveCopies n scope.source before s.copies.next.items (t + 1) s.copies.wheel

-- before a unit what changes in it can be applied
abbrev pub CanGoOn : Type 0
CanGoOn = (n : Circuit) → IsCircuit n → (scope : Scope) (before : ℕ → Option ℕ) (t : ℕ) (s : Simulation) (set : List ℕ) → IsSoundRun s → IsRunning n scope before t s →
    IsWhole n scope before t → AreSet n scope set (t + 1) → All (λ w. w < length s.simulator.waves) set → CanApply s.simulator set (copy_slot s.copies 0) (t + 1)

-- and then a unit is over as soon as the one before, where nothing is set in it
abbrev pub StaysIdle : Type 0
StaysIdle = (n : Circuit) → IsCircuit n → (scope : Scope) (before : ℕ → Option ℕ) (t : ℕ) (s : Simulation) → IsSoundRun s → IsIdle s → IsWhole n scope before t →
    AreSet n scope [] (t + 1) → IsRunning n scope before t s → IsRunning n (with_answers scope (t + 2)) before (t + 1) s
