-- The changes of wires that rest on what is known are ahead in the wheels.
use Rattle.std.specs.Prelude.{◌≡◌, ℕ, ◌+◌, ◌-◌, ◌<◌, ◌≤◌, Bool, false, List, All, length, nat_lt, ◌&&◌, ◌||◌, ◌==◌, ◌++◌, if◌then◌else◌}
use Rattle.std.specs.List.{count_by}
use Rattle.mp_wave.specs.Waveform.{Waveform, IsWaveform, level_of, between}
use Rattle.mp_records.specs.declared.ids.ModuleId.{ModuleId}
use Rattle.mp_netlist.specs.declared.driver.Driver.TheVariants.{Port}
use Rattle.mp_netlist.specs.Circuit.{Circuit, IsCircuit}
use Rattle.mp_netlist.specs.Drivers.{driver}
use Rattle.mp_model.specs.Waves.{level}
use Rattle.mp_modules.specs.automata.Codes.{bit}
use Rattle.mp_simulation.specs.bits.Changes.{change_at}
use Rattle.mp_kernel.specs.declared.datapath.level_change.LevelChange.{LevelChange}
use Rattle.mp_kernel.specs.events.Adding.{listed}
use Rattle.mp_simulation.specs.bits.Simulators.{slot_at}
use Rattle.mp_simulation.specs.declared.units.netlist_simulation.NetlistSimulation.{NetlistSimulation}
use Rattle.mp_simulation.specs.units.DataLevels.{is_data, is_bit_wire, changes_of}
use Rattle.mp_simulation.specs.units.DataWheels.{data_slot, driver_delay, AreChangesBelow}
use Rattle.mp_active.specs.excerpt.Numberings.{Numbering}
use Rattle.mp_active.specs.excerpt.Levels.{AreLevelsShown}
use Rattle.mp_active.specs.excerpt.Showing.{Shows}
use Rattle.mp_active.specs.steps.Putting.{HasPut, entries_of}

-- the entry is of this number, so many units after the next
abbrev pub is_entry_of : ℕ → ℕ → ℕ × LevelChange → Bool
is_entry_of k x entry = entry.0 == k && entry.1.number == x

-- the entry has its wire and the level of its time
pub record IsEntryOf (n : Circuit) (w t : ℕ) (entry : ℕ × LevelChange) : Type 0 where
  pub wire : entry.1.number ≡ w
  pub level : entry.1.level ≡ level n w (t + 1 + entry.0)

-- after t these are the changes to come of a wire that are later than one time and earlier than another, each once
pub record AreChangesOf (n : Circuit) (w t from to : ℕ) (entries : List (ℕ × LevelChange)) : Type 0 where
  pub each : (k x : ℕ) → count_by (is_entry_of k x) entries ≡ bit ((w == x) && (change_at n w (t + 1 + k) && (nat_lt from (t + 1 + k) && nat_lt (t + 1 + k) to)))
  pub own : All (IsEntryOf n w t) entries

-- those of a wave are, where the wire has its levels from the one time until the other
abbrev pub OldChangesAreAhead : Type 0
OldChangesAreAhead = (n : Circuit) (w t from to : ℕ) (wave : Waveform) → IsWaveform wave → t ≤ from → ((u : ℕ) → from ≤ u → u < to → level_of wave u ≡ level n w u) →
    AreChangesOf n w t from to (entries_of w t (between from to wave.changes))

-- two spans that meet are one
abbrev pub SpansJoin : Type 0
SpansJoin = (n : Circuit) (w t from middle to : ℕ) (one other : List (ℕ × LevelChange)) → from < middle → middle ≤ to → AreChangesOf n w t from middle one → AreChangesOf n w t (middle - 1) to other →
    AreChangesOf n w t from to (one ++ other)

-- so many units after the next a wire changes, and this is known after t
abbrev pub is_known : Circuit → ℕ → ℕ → ℕ → Bool
is_known n t w k = change_at n w (t + 1 + k) && nat_lt k (driver_delay n (driver n w))

-- the wheels have of these wires what is known of them after t, and of all others what they had; all else is as it was
pub record AreAhead (n : Circuit) (numbering : Numbering) (t : ℕ) (wires : ℕ → Bool) (s new : NetlistSimulation) : Type 0 where
  pub bits : new.bits ≡ record (s.bits) { simulator = record (s.bits.simulator) { wheel = new.bits.simulator.wheel } }
  pub units : length new.bits.simulator.wheel ≡ length s.bits.simulator.wheel
  pub events : (w k : ℕ) → k < length s.bits.simulator.wheel →
      listed w (slot_at new.bits.simulator k) ≡ (if wires w then bit (is_known n t w k && is_bit_wire n w) else listed w (slot_at s.bits.simulator k))
  pub others : new.wires ≡ record (s.wires) { wheel = new.wires.wheel }
  pub change_units : length new.wires.wheel ≡ length s.wires.wheel
  pub changes : (w k : ℕ) → k < length s.wires.wheel →
      changes_of w (data_slot new.wires.wheel k) ≡ (if wires w then bit (is_known n t w k && is_data n w) else changes_of w (data_slot s.wires.wheel k))
  pub numbered : (bound : ℕ) → length n.wires ≤ bound → AreChangesBelow bound s.wires.wheel → AreChangesBelow bound new.wires.wheel
  pub levels : AreLevelsShown n numbering t s.wires.wheel → AreLevelsShown n numbering t new.wires.wheel
  pub modules : new.modules ≡ s.modules

-- a wire's number is its own, and the wheels have nothing of it
pub record HasNothingAhead (n : Circuit) (numbering : Numbering) (w : ℕ) (s : NetlistSimulation) : Type 0 where
  pub own : numbering.source w ≡ (w, 0)
  pub stands : w < length n.wires
  pub events : (k : ℕ) → k < length s.bits.simulator.wheel → listed w (slot_at s.bits.simulator k) ≡ 0
  pub changes : (k : ℕ) → k < length s.wires.wheel → changes_of w (data_slot s.wires.wheel k) ≡ 0

-- what is known of one wire more is put
abbrev pub PutsAhead : Type 0
PutsAhead = (n : Circuit) (numbering : Numbering) (t w : ℕ) (wires : ℕ → Bool) (s mid new : NetlistSimulation) (entries : List (ℕ × LevelChange)) →
    wires w ≡ false → HasNothingAhead n numbering w s → AreAhead n numbering t wires s mid → AreChangesOf n w t t (t + 1 + driver_delay n (driver n w)) entries →
    HasPut (is_data n w) entries mid new → AreAhead n numbering t (λ v. wires v || (v == w)) s new

-- before the first is put, the wheels have what they had
abbrev pub NoneAhead : Type 0
NoneAhead = (n : Circuit) (numbering : Numbering) (t : ℕ) (s : NetlistSimulation) → AreAhead n numbering t (λ w. false) s s

-- a simulation has nothing ahead of a wire that a module drives which isn't active
abbrev pub RestingHaveNothing : Type 0
RestingHaveNothing = (n : Circuit) → IsCircuit n → (active on : ℕ → Bool) (numbering : Numbering) (t w p : ℕ) (m : ModuleId) (s : NetlistSimulation) → Shows n active on numbering t s →
    driver n w ≡ Port m p → active m.0 ≡ false → HasNothingAhead n numbering w s
