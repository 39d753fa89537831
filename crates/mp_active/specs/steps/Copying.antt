-- Changes to come of delayed copies are put into the wheels.
use Rattle.std.specs.Prelude.{◌≡◌, ℕ, ◌+◌, ◌-◌, ◌<◌, ◌≤◌, ◌^◌, Bool, List, map, length, slice_set, nat_lt, if◌then◌else◌}
use Rattle.mp_wave.specs.Waveform.{Waveform, level_of, between}
use Rattle.mp_kernel.specs.events.Firing.{scheduled}
use Rattle.mp_kernel.specs.declared.datapath.level_change.LevelChange.{LevelChange}
use Rattle.mp_kernel.specs.datapath.LevelWheels.{scheduled as levels_scheduled}
use Rattle.mp_simulation.specs.declared.units.netlist_simulation.NetlistSimulation.{NetlistSimulation}
use Rattle.mp_active.specs.declared.steps.copying.Copied.{Copied}
use Rattle.mp_active.specs.steps.Putting.{entries_of, toggles_of}

-- how many units the wheel has of copies of wires of this kind
abbrev pub copy_room : Bool → NetlistSimulation → ℕ
copy_room with_data s = if with_data then length s.wires.wheel else length s.bits.copies.wheel

-- changes so much later
abbrev pub delayed : ℕ → List (ℕ × ℕ) → List (ℕ × ℕ)
delayed delay changes = map (λ (c : ℕ × ℕ). (c.0 + delay, c.1)) changes

-- the wheel of the copies of wires with data has these changes more, or that of those of wires of width 1; all else is as it was
pub record HasPutCopy (with_data : Bool) (entries : List (ℕ × LevelChange)) (s new : NetlistSimulation) : Type 0 where
  pub bits : new.bits ≡ record (s.bits) { copies = record (s.bits.copies) { wheel = new.bits.copies.wheel } }
  pub events : new.bits.copies.wheel ≡ (if with_data then s.bits.copies.wheel else scheduled s.bits.copies.wheel (toggles_of entries))
  pub wires : new.wires ≡ record (s.wires) { wheel = new.wires.wheel }
  pub changes : new.wires.wheel ≡ (if with_data then levels_scheduled s.wires.wheel entries else s.wires.wheel)
  pub modules : new.modules ≡ s.modules

-- the number before a copy has had its changes up to the time, and the wheel has room for what is between that and the copy
pub record IsLate (with_data : Bool) (copy : Copied) (now : ℕ) (s : NetlistSimulation) : Type 0 where
  pub had : copy.sooner ≤ now
  pub low : now + copy.delay < 2 ^ 32
  pub later : copy.sooner < copy.delay
  pub within : copy.delay - copy.sooner ≤ copy_room with_data s

-- what a copy is to have of a wave after the unit of a time
abbrev pub in_flight : Waveform → Copied → ℕ → List (ℕ × LevelChange)
in_flight wave copy now = entries_of copy.number now (delayed copy.delay (between (now - copy.delay) (now - copy.sooner + 1) wave.changes))

-- a copy has its level, if it is after time 0, and what is in flight; all else is as it was
pub record HasTurnedCopy (with_data : Bool) (wave : Waveform) (copy : Copied) (now : ℕ) (s new : NetlistSimulation) : Type 0 where
  pub bits : new.bits ≡ record (s.bits) { copies = record (s.bits.copies) { wheel = new.bits.copies.wheel } }
  pub events : new.bits.copies.wheel ≡ (if with_data then s.bits.copies.wheel else scheduled s.bits.copies.wheel (toggles_of (in_flight wave copy now)))
  pub wires : new.wires ≡ record (s.wires) { levels = new.wires.levels; wheel = new.wires.wheel }
  pub levels : new.wires.levels.items ≡ (if nat_lt now copy.delay then s.wires.levels.items else slice_set s.wires.levels.items copy.number (level_of wave (now - copy.delay)))
  pub changes : new.wires.wheel ≡ (if with_data then levels_scheduled s.wires.wheel (in_flight wave copy now) else s.wires.wheel)
  pub modules : new.modules ≡ s.modules
