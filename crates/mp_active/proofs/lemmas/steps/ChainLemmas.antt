-- The delayed copies of a wire, one after the other.
use Rattle.std.proofs.Common.{◌≡◌, ℕ, ◌<◌, Bool, true, false, List, All, Some, cond, length, nat_lt, refl, ap, ◌∙◌}
use Rattle.std.specs.Prelude.{slice_set}
use Rattle.std.proofs.lemmas.List.{length-set}
use Rattle.mp_wave.specs.Waveform.{Waveform}
use Rattle.mp_simulation.specs.declared.bits.simulation.Simulation.{Simulation}
use Rattle.mp_kernel.specs.declared.events.output_port.OutputPort.{OutputPort}
use Rattle.mp_kernel.specs.events.Firing.{copy_at, no_port}
use Rattle.mp_simulation.specs.bits.Simulators.{IsBelow}
use Rattle.mp_kernel.specs.declared.datapath.level_change.LevelChange.{LevelChange}
use Rattle.mp_simulation.specs.declared.units.data_wires.DataWires.{DataWires}
use Rattle.mp_simulation.specs.declared.units.netlist_simulation.NetlistSimulation.{NetlistSimulation}
use Rattle.mp_active.specs.declared.steps.copying.Copied.{Copied}
use Rattle.mp_active.specs.steps.Putting.{toggles_of}
use Rattle.mp_active.specs.steps.Copying.{copy_room, in_flight, HasTurnedCopy}
use Rattle.mp_active.specs.steps.Chains.{next_in, AreBehind, AreTurned, AreCopiesTurned}
use Rattle.mp_active.proofs.lemmas.steps.PutLemmas.{scheduled_length, levels_length}

-- what stands next, and the room, stay
pub record HasSameRoom (with_data : Bool) (s new : NetlistSimulation) : Type 0 where
  pub next : next_in with_data new ≡ next_in with_data s
  pub room : copy_room with_data new ≡ copy_room with_data s
  pub levels : length new.wires.levels.items ≡ length s.wires.levels.items

set_long : (b : Bool) (xs : List ℕ) (k x : ℕ) → length (cond b xs (slice_set xs k x)) ≡ length xs
set_long true xs k x = refl
set_long false xs k x = length-set xs k x

next_kept : (with_data : Bool) (wave : Waveform) (copy : Copied) (now : ℕ) (s new : NetlistSimulation) → HasTurnedCopy with_data wave copy now s new → next_in with_data new ≡ next_in with_data s
next_kept true wave copy now s new turned = ap (λ (w : DataWires). w.next.items) turned.wires
next_kept false wave copy now s new turned = ap (λ (b : Simulation). b.copies.next.items) turned.bits

room_kept : (with_data : Bool) (wave : Waveform) (copy : Copied) (now : ℕ) (s new : NetlistSimulation) → HasTurnedCopy with_data wave copy now s new → copy_room with_data new ≡ copy_room with_data s
room_kept true wave copy now s new turned = ap (length {A = List LevelChange}) turned.changes ∙ levels_length s.wires.wheel (in_flight wave copy now)
room_kept false wave copy now s new turned = ap (length {A = List ℕ}) turned.events ∙ scheduled_length s.bits.copies.wheel (toggles_of (in_flight wave copy now))

pub room_more : (with_data : Bool) (wave : Waveform) (copy : Copied) (now : ℕ) (s mid new : NetlistSimulation) → HasSameRoom with_data s mid → HasTurnedCopy with_data wave copy now mid new → HasSameRoom with_data s new
room_more with_data wave copy now s mid new same turned = record {
  next = next_kept with_data wave copy now mid new turned ∙ same.next;
  room = room_kept with_data wave copy now mid new turned ∙ same.room;
  levels = ap (length {A = ℕ}) turned.levels ∙ set_long (nat_lt now copy.delay) mid.wires.levels.items copy.number _ ∙ same.levels;
}

-- whatever turns on what is behind a number leads to all being turned on
abbrev pub LeadsOn : Bool → Waveform → ℕ → ℕ → NetlistSimulation → ℕ → ℕ → NetlistSimulation → Type 0
LeadsOn with_data wave w now s number late mid =
    (copies : List Copied) (new : NetlistSimulation) → AreBehind (next_in with_data s) now number late copies → AreTurned with_data wave now copies mid new → AreCopiesTurned with_data wave w now s new

-- the copy next after a number is one of the numbers
pub below_at : (next : List OutputPort) (numbers y x : ℕ) → y < length next → All (IsBelow numbers) next → (copy_at next y).wire ≡ Some x → x < numbers
below_at next numbers y x low each is = each y no_port low x is
