-- A wire is turned on between two units.
use Rattle.std.specs.Prelude.{◌≡◌, ℕ, ◌+◌, ◌<◌, Bool, true, false, length, slice_index, nat_lt, ◌&&◌, ◌||◌, ◌==◌, if◌then◌else◌}
use Rattle.mp_wave.specs.Waveform.{wave_upto}
use Rattle.mp_netlist.specs.Circuit.{Circuit, IsCircuit}
use Rattle.mp_model.specs.Waves.{level}
use Rattle.mp_modules.specs.automata.Codes.{bit}
use Rattle.mp_kernel.specs.events.Adding.{listed}
use Rattle.mp_kernel.specs.events.Toggling.{wave_at}
use Rattle.mp_simulation.specs.bits.Changes.{late_change}
use Rattle.mp_simulation.specs.bits.Copies.{later_by}
use Rattle.mp_simulation.specs.bits.Simulations.{copy_slot}
use Rattle.mp_simulation.specs.bits.Traces.{IsTrace}
use Rattle.mp_simulation.specs.declared.units.data_wires.DataWires.{DataWires}
use Rattle.mp_simulation.specs.declared.units.netlist_simulation.NetlistSimulation.{NetlistSimulation}
use Rattle.mp_simulation.specs.units.DataLevels.{is_data, is_bit_wire, late_level, changes_of}
use Rattle.mp_simulation.specs.units.DataWaves.{building_at}
use Rattle.mp_simulation.specs.units.DataWheels.{data_slot, AreChangesBelow}
use Rattle.mp_active.specs.excerpt.Excerpts.{ArePortsOn}
use Rattle.mp_active.specs.excerpt.Numberings.{Numbering}
use Rattle.mp_active.specs.excerpt.Levels.{AreLevelsShown}
use Rattle.mp_active.specs.excerpt.Showing.{Shows}

-- the wires that are on, and one more
abbrev pub with_wire : (ℕ → Bool) → ℕ → ℕ → Bool
with_wire on w v = on v || (v == w)

-- the level of a number that is of the wire is that of t; any other is as it was
abbrev pub IsLevelTurned : Circuit → Numbering → ℕ → ℕ → DataWires → DataWires → ℕ → Type 0
IsLevelTurned n numbering w t s new x =
    slice_index new.levels.items x ≡ (if (numbering.source x).0 == w then late_level n (numbering.source x) t else slice_index s.levels.items x)

-- a copy of the wire is in the slot of each of its changes to come that come of one up to t; the others are where they were
abbrev pub IsCopyTurned : Circuit → Numbering → ℕ → ℕ → NetlistSimulation → NetlistSimulation → ℕ → ℕ → Type 0
IsCopyTurned n numbering w t s new x k =
    listed x (copy_slot new.bits.copies k)
    ≡ (if (numbering.source x).0 == w then bit (late_change n (numbering.source x) (t + 1 + k) && nat_lt k (later_by s.bits.copies.next.items (numbering.before x)))
    else listed x (copy_slot s.bits.copies k))

-- and so it is with data
abbrev pub IsChangeTurned : Circuit → Numbering → ℕ → ℕ → DataWires → DataWires → ℕ → ℕ → Type 0
IsChangeTurned n numbering w t s new x k =
    changes_of x (data_slot new.wheel k)
    ≡ (if (numbering.source x).0 == w
    then bit ((late_change n (numbering.source x) (t + 1 + k) && is_data n (numbering.source x).0) && nat_lt k (later_by s.next.items (numbering.data_before x)))
    else changes_of x (data_slot s.wheel k))

-- after t a simulation becomes another, in which a wire has its wave up to t, and it and its copies have their levels and what is in flight; all
-- else is as it was
pub record IsTurnedOn (n : Circuit) (numbering : Numbering) (w t : ℕ) (s new : NetlistSimulation) : Type 0 where
  pub simulator : new.bits.simulator ≡ record (s.bits.simulator) { waves = new.bits.simulator.waves }
  pub traces : length new.bits.simulator.waves ≡ length s.bits.simulator.waves
  pub trace : is_bit_wire n w ≡ true → IsTrace (level n w) t (wave_at new.bits.simulator.waves w)
  pub other_traces : (v : ℕ) → (v == w) ≡ false → wave_at new.bits.simulator.waves v ≡ wave_at s.bits.simulator.waves v
  pub next : new.bits.copies.next.items ≡ s.bits.copies.next.items
  pub copy_units : length new.bits.copies.wheel ≡ length s.bits.copies.wheel
  pub copies : (x k : ℕ) → k < length s.bits.copies.wheel → IsCopyTurned n numbering w t s new x k
  pub data_next : new.wires.next.items ≡ s.wires.next.items
  pub change_units : length new.wires.wheel ≡ length s.wires.wheel
  pub changes : (x k : ℕ) → x < length s.bits.simulator.fanout → k < length s.wires.wheel → IsChangeTurned n numbering w t s.wires new.wires x k
  pub numbered : AreChangesBelow (length s.bits.simulator.fanout) new.wires.wheel
  pub change_levels : AreLevelsShown n numbering t new.wires.wheel
  pub numbers : length new.wires.levels.items ≡ length s.wires.levels.items
  pub levels : (x : ℕ) → x < length s.bits.simulator.fanout → IsLevelTurned n numbering w t s.wires new.wires x
  pub waves : length new.wires.waves.items ≡ length s.wires.waves.items
  pub wave : is_data n w ≡ true → (building_at new.wires.waves.items w).wave ≡ wave_upto (level n w) t
  pub over : (building_at new.wires.waves.items w).next < t + 2
  pub other_waves : (v : ℕ) → (v == w) ≡ false → building_at new.wires.waves.items v ≡ building_at s.wires.waves.items v
  pub modules : new.modules ≡ s.modules

-- then it has the netlist with one more wire on
abbrev pub TurningShows : Type 0
TurningShows = (n : Circuit) → IsCircuit n → (active on : ℕ → Bool) → ArePortsOn n active on → (numbering : Numbering) (w t : ℕ) (s new : NetlistSimulation) →
    Shows n active on numbering t s → on w ≡ false → IsTurnedOn n numbering w t s new → Shows n active (with_wire on w) numbering t new
