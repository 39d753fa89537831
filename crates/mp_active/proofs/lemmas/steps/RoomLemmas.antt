-- What is as before while a wire gets its level and its wave.
use Rattle.std.proofs.Common.{◌≡◌, ℕ, Bool, true, false, List, All, length, ap, sym, subst, ◌∙◌, arith}
use Rattle.std.proofs.lemmas.List.{length-set}
use Rattle.mp_wave.specs.Waveform.{Waveform}
use Rattle.mp_kernel.specs.declared.events.output_port.OutputPort.{OutputPort}
use Rattle.mp_kernel.specs.events.Firing.{HasSlot}
use Rattle.mp_simulation.specs.declared.bits.simulation.Simulation.{Simulation}
use Rattle.mp_simulation.specs.bits.Simulators.{IsBelow}
use Rattle.mp_simulation.specs.declared.units.data_wires.DataWires.{DataWires}
use Rattle.mp_simulation.specs.declared.units.netlist_simulation.NetlistSimulation.{NetlistSimulation}
use Rattle.mp_active.specs.steps.Copying.{copy_room}
use Rattle.mp_active.specs.steps.Chains.{next_in, CanTurnCopies}
use Rattle.mp_active.specs.steps.TurningOn.{wave_places, HasSetLevel, HasSetWave}
use Rattle.mp_active.proofs.lemmas.steps.ChainLemmas.{HasSameRoom}

pub places_same : (wide : Bool) (w value : ℕ) (s new : NetlistSimulation) → HasSetLevel w value s new → wave_places wide new ≡ wave_places wide s
places_same true w value s new set = ap (λ (v : DataWires). length v.waves.items) set.wires
places_same false w value s new set = ap (λ (b : Simulation). length b.simulator.waves) set.bits

pub can_turn_copies : (wide : Bool) (w now : ℕ) (s new : NetlistSimulation) → HasSameRoom wide s new → CanTurnCopies wide w now s → CanTurnCopies wide w now new
can_turn_copies wide w now s new same can = record {
  low = can.low;
  number_low = let long = ap (length {A = OutputPort}) same.next in let low = can.number_low in omega (arith, long, low);
  within = subst (λ k. All (HasSlot k) (next_in wide new)) (sym same.room) (subst (λ (xs : List OutputPort). All (HasSlot (copy_room wide s)) xs) (sym same.next) can.within);
  below = subst (λ (xs : List OutputPort). All (IsBelow (length xs)) xs) (sym same.next) can.below;
  levels = same.levels ∙ can.levels ∙ ap (length {A = OutputPort}) (sym same.next);
}

module _ (w value upto : ℕ) (wave : Waveform) (s one two : NetlistSimulation) (first : HasSetLevel w value s one) where
  pub room_set : (wide : Bool) → HasSetWave wide wave w upto one two → HasSameRoom wide s two
  room_set wide then = record { next = next_by wide; room = room_by wide; levels = ap (λ (v : DataWires). length v.levels.items) then.wires ∙ ap (length {A = ℕ}) first.levels ∙ length-set s.wires.levels.items w value }
    where
      next_by : (v : Bool) → next_in v two ≡ next_in v s
      next_by true = ap (λ (v : DataWires). v.next.items) then.wires ∙ ap (λ (v : DataWires). v.next.items) first.wires
      next_by false = ap (λ (b : Simulation). b.copies.next.items) then.bits ∙ ap (λ (b : Simulation). b.copies.next.items) first.bits

      room_by : (v : Bool) → copy_room v two ≡ copy_room v s
      room_by true = ap (λ (v : DataWires). length v.wheel) then.wires ∙ ap (λ (v : DataWires). length v.wheel) first.wires
      room_by false = ap (λ (b : Simulation). length b.copies.wheel) then.bits ∙ ap (λ (b : Simulation). length b.copies.wheel) first.bits
