-- The delayed copies of a wire, one after the other, are turned on.
use Rattle.std.specs.Prelude.{◌≡◌, ℕ, ◌+◌, ◌<◌, ◌≤◌, ◌^◌, Bool, List, [], ◌∷◌, All, Some, None, length, if◌then◌else◌}
use Rattle.mp_wave.specs.Waveform.{Waveform}
use Rattle.mp_kernel.specs.declared.events.output_port.OutputPort.{OutputPort}
use Rattle.mp_kernel.specs.events.Firing.{HasSlot, copy_at}
use Rattle.mp_simulation.specs.bits.Simulators.{IsBelow}
use Rattle.mp_simulation.specs.declared.units.netlist_simulation.NetlistSimulation.{NetlistSimulation}
use Rattle.mp_active.specs.declared.steps.copying.Copied.{Copied}
use Rattle.mp_active.specs.steps.Copying.{copy_room, HasTurnedCopy}

-- what stands next after each number, with data or not
abbrev pub next_in : Bool → NetlistSimulation → List OutputPort
next_in with_data s = if with_data then s.wires.next.items else s.bits.copies.next.items

-- the number is one of the simulation's, and its wheel has a slot for each copy
pub record CanTurnCopies (with_data : Bool) (number now : ℕ) (s : NetlistSimulation) : Type 0 where
  pub low : now < 2 ^ 30
  pub number_low : number < length (next_in with_data s)
  pub within : All (HasSlot (copy_room with_data s)) (next_in with_data s)
  pub below : All (IsBelow (length (next_in with_data s))) (next_in with_data s)
  pub levels : length s.wires.levels.items ≡ length (next_in with_data s)

-- the copies behind a number that is so much later than its wire, up to the first number that hasn't had a change up to the time
abbrev pub AreBehind : List OutputPort → ℕ → ℕ → ℕ → List Copied → Type 0
AreBehind next now number late [] = late ≤ now → (copy_at next number).wire ≡ None
AreBehind next now number late (copy ∷ copies) =
    (late ≤ now) × ((copy_at next number).wire ≡ Some copy.number) × (copy.sooner ≡ late) × (copy.delay ≡ late + (copy_at next number).delay) × AreBehind next now copy.number copy.delay copies

-- each of these is turned on, one after the other
abbrev pub AreTurned : Bool → Waveform → ℕ → List Copied → NetlistSimulation → NetlistSimulation → Type 0
AreTurned with_data wave now [] s new = new ≡ s
AreTurned with_data wave now (copy ∷ copies) s new = (mid : NetlistSimulation) × HasTurnedCopy with_data wave copy now s mid × AreTurned with_data wave now copies mid new

-- the copies behind a wire are
pub record AreCopiesTurned (with_data : Bool) (wave : Waveform) (w now : ℕ) (s new : NetlistSimulation) : Type 0 where
  pub copies : List Copied
  pub behind : AreBehind (next_in with_data s) now w 0 copies
  pub turned : AreTurned with_data wave now copies s new
