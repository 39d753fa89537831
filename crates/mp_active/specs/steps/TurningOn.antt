-- A wire is turned on between two units.
use Rattle.std.specs.Prelude.{◌≡◌, ℕ, ◌<◌, ◌≤◌, ◌^◌, Bool, false, length, slice_set, if◌then◌else◌}
use Rattle.mp_wave.specs.Waveform.{Waveform, level_of}
use Rattle.mp_netlist.specs.Circuit.{Circuit, IsCircuit}
use Rattle.mp_model.specs.Waves.{level}
use Rattle.mp_simulation.specs.declared.units.netlist_simulation.NetlistSimulation.{NetlistSimulation}
use Rattle.mp_simulation.specs.units.DataLevels.{is_data}
use Rattle.mp_active.specs.excerpt.Numberings.{Numbering}
use Rattle.mp_active.specs.excerpt.Showing.{Shows}
use Rattle.mp_active.specs.excerpt.Turning.{IsTurnedOn}
use Rattle.mp_active.specs.steps.Chains.{CanTurnCopies}

-- how many wires have waves where those of this kind have theirs
abbrev pub wave_places : Bool → NetlistSimulation → ℕ
wave_places with_data s = if with_data then length s.wires.waves.items else length s.bits.simulator.waves

-- the wire and its copies have places, and the wave of a wire of width 1 has no other levels than 0 and 1
pub record CanTurnOn (with_data : Bool) (wave : Waveform) (w now : ℕ) (s : NetlistSimulation) : Type 0 where
  pub copies : CanTurnCopies with_data w now s
  pub place : w < wave_places with_data s
  pub low : with_data ≡ false → (u : ℕ) → level_of wave u ≤ 1

-- a wire of a netlist that a simulation shows can be turned on
abbrev pub WiresCanTurnOn : Type 0
WiresCanTurnOn = (n : Circuit) → IsCircuit n → (active on : ℕ → Bool) (numbering : Numbering) (w now : ℕ) (wave : Waveform) (s : NetlistSimulation) → Shows n active on numbering now s →
    w < length n.wires → now < 2 ^ 30 → (is_data n w ≡ false → (u : ℕ) → level_of wave u ≤ 1) → CanTurnOn (is_data n w) wave w now s

-- the wire has this level; all else is as it was
pub record HasSetLevel (w value : ℕ) (s new : NetlistSimulation) : Type 0 where
  pub bits : new.bits ≡ s.bits
  pub wires : new.wires ≡ record (s.wires) { levels = new.wires.levels }
  pub levels : new.wires.levels.items ≡ slice_set s.wires.levels.items w value
  pub modules : new.modules ≡ s.modules

-- the wire has this wave, which goes on at a time; all else is as it was
pub record HasSetWave (with_data : Bool) (wave : Waveform) (w upto : ℕ) (s new : NetlistSimulation) : Type 0 where
  pub bits : new.bits ≡ record (s.bits) { simulator = record (s.bits.simulator) { waves = new.bits.simulator.waves } }
  pub traces : new.bits.simulator.waves ≡ (if with_data then s.bits.simulator.waves else slice_set s.bits.simulator.waves w wave)
  pub wires : new.wires ≡ record (s.wires) { waves = new.wires.waves }
  pub waves : new.wires.waves.items ≡ (if with_data then slice_set s.wires.waves.items w (record { wave = wave; next = upto }) else s.wires.waves.items)
  pub modules : new.modules ≡ s.modules

-- of whatever netlist the simulation shows an excerpt in which the wire is off: if the wire has the levels of this wave up to now, it is turned on
abbrev pub TurnsOn : Bool → Waveform → ℕ → ℕ → NetlistSimulation → NetlistSimulation → Type 0
TurnsOn with_data wave w now s new = (n : Circuit) → IsCircuit n → (active on : ℕ → Bool) (numbering : Numbering) → Shows n active on numbering now s → on w ≡ false → is_data n w ≡ with_data →
    ((u : ℕ) → u ≤ now → level_of wave u ≡ level n w u) → IsTurnedOn n numbering w now s new
