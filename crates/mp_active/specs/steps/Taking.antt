-- What the wheels have of wires is taken out of them.
use Rattle.std.specs.Prelude.{◌≡◌, ℕ, zero, suc, ◌+◌, ◌++◌, ◌<◌, ◌≤◌, Bool, true, false, not, List, [], length, map, nat_lt, slice_set, if◌then◌else◌, slice_index_or, ◌&&◌, ◌==◌}
use Rattle.std.specs.List.{filter, count_by}
use Rattle.mp_netlist.specs.Circuit.{Circuit, IsCircuit}
use Rattle.mp_netlist.specs.Drivers.{driver}
use Rattle.mp_simulation.specs.bits.Simulators.{slot_at}
use Rattle.mp_kernel.specs.events.Adding.{listed}
use Rattle.mp_kernel.specs.events.Firing.{scheduled}
use Rattle.mp_kernel.specs.datapath.LevelWheels.{scheduled as levels_scheduled}
use Rattle.mp_kernel.specs.declared.datapath.level_change.LevelChange.{LevelChange}
use Rattle.mp_simulation.specs.declared.units.netlist_simulation.NetlistSimulation.{NetlistSimulation}
use Rattle.mp_simulation.specs.units.DataLevels.{changes_of}
use Rattle.mp_simulation.specs.units.DataWheels.{data_slot, driver_delay}
use Rattle.mp_simulation.specs.declared.run.stimuli.StimulusChange.{StimulusChange}
use Rattle.mp_active.specs.excerpt.Numberings.{Numbering}
use Rattle.mp_active.specs.excerpt.Showing.{Shows}
use Rattle.mp_active.specs.excerpt.Leaving.{without, is_port_in, HaveLeft}
use Rattle.mp_active.specs.declared.compare.wire_source.WireSource.{WireSource}
use Rattle.mp_active.specs.steps.Sleeping.{ArePutToSleep}

-- the number is of a wire that no active module drives
abbrev pub is_gone : List WireSource → ℕ → Bool
is_gone sources w = nat_lt w (length sources) && not ((slice_index_or sources w (record { until = 0; is_on = false })).until == 4294967295)

-- a wire as it is put into a slot
abbrev pub in_slot : ℕ → ℕ → ℕ × ℕ
in_slot units w = (units, w)

-- a wire of width 1 as it is listed
abbrev pub taken_toggle : ℕ → ℕ → StimulusChange
taken_toggle time w = record { time = time; wire = w; has_data = false; level = 0 }

-- those of the numbers that don't go
abbrev pub staying : (ℕ → Bool) → List ℕ → List ℕ
staying gone slot = filter (λ w. not (gone w)) slot

-- and of the changes
abbrev pub staying_changes : (ℕ → Bool) → List LevelChange → List LevelChange
staying_changes gone slot = filter (λ (c : LevelChange). not (gone c.number)) slot

-- those of the changes that go
abbrev pub gone_changes : (ℕ → Bool) → List LevelChange → List LevelChange
gone_changes gone slot = filter (λ (c : LevelChange). gone c.number) slot

-- a change as it is put into a slot, and as it is listed
abbrev pub in_level_slot : ℕ → LevelChange → ℕ × LevelChange
in_level_slot units c = (units, c)

abbrev pub taken_change : ℕ → LevelChange → StimulusChange
taken_change time c = record { time = time; wire = c.number; has_data = true; level = c.level }

-- one slot of the wires of width 1 has nothing of these; all else is as it was
pub record HasTakenToggles (gone : ℕ → Bool) (units : ℕ) (s new : NetlistSimulation) : Type 0 where
  pub bits : new.bits ≡ record (s.bits) { simulator = record (s.bits.simulator) { wheel = new.bits.simulator.wheel } }
  pub long : length new.bits.simulator.wheel ≡ length s.bits.simulator.wheel
  pub events : (k : ℕ) → slot_at new.bits.simulator k ≡ (if k == units then staying gone (slot_at s.bits.simulator k) else slot_at s.bits.simulator k)
  pub wires : new.wires ≡ s.wires
  pub modules : new.modules ≡ s.modules

-- and one slot of the wires with data
pub record HasTakenLevels (gone : ℕ → Bool) (units : ℕ) (s new : NetlistSimulation) : Type 0 where
  pub bits : new.bits ≡ s.bits
  pub wires : new.wires ≡ record (s.wires) { wheel = new.wires.wheel }
  pub long : length new.wires.wheel ≡ length s.wires.wheel
  pub changes : (k : ℕ) → data_slot new.wires.wheel k ≡ (if k == units then staying_changes gone (data_slot s.wires.wheel k) else data_slot s.wires.wheel k)
  pub modules : new.modules ≡ s.modules

-- the slots of so many units have nothing of these wires; all else is as it was
pub record HasTaken (gone : ℕ → Bool) (units : ℕ) (s new : NetlistSimulation) : Type 0 where
  pub bits : new.bits ≡ record (s.bits) { simulator = record (s.bits.simulator) { wheel = new.bits.simulator.wheel } }
  pub long : length new.bits.simulator.wheel ≡ length s.bits.simulator.wheel
  pub events : (k : ℕ) → k < units → slot_at new.bits.simulator k ≡ staying gone (slot_at s.bits.simulator k)
  pub later_events : (k : ℕ) → units ≤ k → slot_at new.bits.simulator k ≡ slot_at s.bits.simulator k
  pub wires : new.wires ≡ record (s.wires) { wheel = new.wires.wheel }
  pub data_long : length new.wires.wheel ≡ length s.wires.wheel
  pub changes : (k : ℕ) → k < units → data_slot new.wires.wheel k ≡ staying_changes gone (data_slot s.wires.wheel k)
  pub later_changes : (k : ℕ) → units ≤ k → data_slot new.wires.wheel k ≡ data_slot s.wires.wheel k
  pub modules : new.modules ≡ s.modules

-- what is listed of one unit: of these wires what the slots have
abbrev pub taken_at : (ℕ → Bool) → ℕ → NetlistSimulation → ℕ → List StimulusChange
taken_at gone time s k =
    map (taken_toggle (time + k)) (filter gone (slot_at s.bits.simulator k)) ++ map (taken_change (time + k)) (gone_changes gone (data_slot s.wires.wheel k))

-- and of so many units, one after the other
abbrev pub taken_in : (ℕ → Bool) → ℕ → NetlistSimulation → ℕ → List StimulusChange
taken_in gone time s zero = []
taken_in gone time s (suc units) = taken_in gone time s units ++ taken_at gone time s units

-- it is a change of the wire at a time
abbrev pub is_taken : ℕ → ℕ → StimulusChange → Bool
is_taken w time c = c.time == time && c.wire == w

-- of each of these wires it is just what the slots of these units have, and of other wires nothing
abbrev pub ListsTaken : Type 0
ListsTaken = (gone : ℕ → Bool) (time units w k : ℕ) (s : NetlistSimulation) →
    count_by (is_taken w (time + k)) (taken_in gone time s units) ≡ (if nat_lt k units && gone w then listed w (slot_at s.bits.simulator k) + changes_of w (data_slot s.wires.wheel k) else 0)

-- no module that stays active drives one of these wires, and those of modules that leave are all among them, with as many units as are decided
pub record AreGone (n : Circuit) (active leaving gone : ℕ → Bool) (units : ℕ) : Type 0 where
  pub left : (w : ℕ) → is_port_in leaving (driver n w) ≡ true → gone w ≡ true
  pub resting : (w : ℕ) → gone w ≡ true → is_port_in (without active leaving) (driver n w) ≡ false
  pub stand : (w : ℕ) → gone w ≡ true → w < length n.wires
  pub decided : (w : ℕ) → is_port_in leaving (driver n w) ≡ true → driver_delay n (driver n w) ≤ units

-- modules that sleep, and whose wires are taken out of the wheels, have left
abbrev pub SleepingLeaves : Type 0
SleepingLeaves = (n : Circuit) → IsCircuit n → (active on : ℕ → Bool) (numbering : Numbering) (leaving gone : ℕ → Bool) (t units : ℕ) (s mid new : NetlistSimulation) →
    AreGone n active leaving gone units → Shows n active on numbering t s → ArePutToSleep leaving s mid → HasTaken gone units mid new → HaveLeft n numbering leaving t s new

-- where a slot is empty, it then has what is put back, and the other slots stay
abbrev pub PutsBack : Type 0
PutsBack = (slots : List (List ℕ)) (units k : ℕ) (wires : List ℕ) → units < length slots →
    slice_index_or (scheduled (slice_set slots units []) (map (in_slot units) wires)) k [] ≡ (if k == units then wires else slice_index_or slots k [])

abbrev pub PutsLevelsBack : Type 0
PutsLevelsBack = (slots : List (List LevelChange)) (units k : ℕ) (changes : List LevelChange) → units < length slots →
    data_slot (levels_scheduled (slice_set slots units []) (map (in_level_slot units) changes)) k ≡ (if k == units then changes else data_slot slots k)
