-- Excerpts of a netlist: only some modules stand, and each wire that they have to do with is as it is there.
use Rattle.std.specs.Prelude.{◌≡◌, ℕ, ◌+◌, ◌<◌, Bool, true, false, not, List, [], ◌∷◌, Option, Some, None, option_map, if◌then◌else◌}
use Rattle.mp_records.specs.declared.ids.ModuleId.{ModuleId}
use Rattle.mp_records.specs.declared.wire_record.WireRecord.{WireRecord}
use Rattle.mp_records.specs.declared.module_record.ModuleRecord.{ModuleRecord}
use Rattle.mp_records.specs.Outputs.{delay_of}
use Rattle.mp_netlist.specs.declared.driver.Driver.{Driver}
use Rattle.mp_netlist.specs.declared.driver.Driver.TheVariants.{Nothing, Stimulus, Port}
use Rattle.mp_netlist.specs.Circuit.{Circuit, IsCircuit, Drives, wire_at, module_at}
use Rattle.mp_netlist.specs.Drivers.{driver}
use Rattle.mp_model.specs.Levels.{initial_of}
use Rattle.mp_model.specs.Waves.{level, state}
use Rattle.mp_partition.specs.regions.Readers.{Reads}
use Rattle.mp_partition.specs.regions.Regions.{set_on_slot}

-- the slots of modules, m being the number of the first, without those of modules that aren't active
abbrev pub active_slots : (ℕ → Bool) → ℕ → List (Option ModuleRecord) → List (Option ModuleRecord)
active_slots active m [] = []
active_slots active m (slot ∷ slots) = (if active m then slot else None) ∷ active_slots active (m + 1) slots

-- a port of a module that isn't active drives the wire
abbrev pub is_followed : (ℕ → Bool) → Driver → Bool
is_followed active Nothing = false
is_followed active Stimulus = false
is_followed active (Port m p) = not (active m.0)

-- what stands in a wire's slot, with nothing set on it from outside
abbrev pub unset_slot : Option WireRecord → Option WireRecord
unset_slot slot = option_map (λ (r : WireRecord). record r { stimulus = None }) slot

-- what stands in the slot of a wire that is on: where the wire is followed, its levels come from outside
abbrev pub slot_on : Circuit → (ℕ → Bool) → ℕ → Option WireRecord → Option WireRecord
slot_on n active w slot = if is_followed active (driver n w) then set_on_slot n.horizon (level n w) slot else slot

-- the slots of wires, w being the number of the first; nothing is set on a wire that is off
abbrev pub slots_on : Circuit → (ℕ → Bool) → (ℕ → Bool) → ℕ → List (Option WireRecord) → List (Option WireRecord)
slots_on n active on w [] = []
slots_on n active on w (slot ∷ slots) = (if on w then slot_on n active w slot else unset_slot slot) ∷ slots_on n active on (w + 1) slots

-- the excerpt of a netlist in which these modules are active and these wires on
abbrev pub excerpt : Circuit → (ℕ → Bool) → (ℕ → Bool) → Circuit
excerpt n active on = record {
  format = n.format;
  horizon = n.horizon;
  wires = slots_on n active on 0 n.wires;
  modules = active_slots active 0 n.modules;
  bundles = n.bundles;
}

-- every port of an active module is at a wire that is on
pub record ArePortsOn (n : Circuit) (active on : ℕ → Bool) : Type 0 where
  pub driven : (m p w : ℕ) → active m ≡ true → Drives n m p w → on w ≡ true
  pub read : (m w : ℕ) → active m ≡ true → Reads n m w → on w ≡ true

-- then the excerpt is a netlist
abbrev pub ExcerptsAreCircuits : Type 0
ExcerptsAreCircuits = (n : Circuit) → IsCircuit n → (active on : ℕ → Bool) → ArePortsOn n active on → IsCircuit (excerpt n active on)

-- below the horizon wires that are on have the levels of the netlist
abbrev pub ExcerptsHaveLevels : Type 0
ExcerptsHaveLevels = (n : Circuit) → IsCircuit n → (active on : ℕ → Bool) → ArePortsOn n active on → (w t : ℕ) → on w ≡ true → t < n.horizon →
    level (excerpt n active on) w t ≡ level n w t

-- and active modules its states
abbrev pub ExcerptsHaveStates : Type 0
ExcerptsHaveStates = (n : Circuit) → IsCircuit n → (active on : ℕ → Bool) → ArePortsOn n active on → (m t : ℕ) (r : ModuleRecord) → active m ≡ true →
    module_at n m ≡ Some r → t < n.horizon → state (excerpt n active on) m t ≡ state n m t

-- a wire that an active module drives has the levels of the netlist as long as they rest on states up to a time below the horizon
abbrev pub ExcerptsHaveDecided : Type 0
ExcerptsHaveDecided = (n : Circuit) → IsCircuit n → (active on : ℕ → Bool) → ArePortsOn n active on → (w p u t : ℕ) (m : ModuleId) (r : ModuleRecord) →
    driver n w ≡ Port m p → active m.0 ≡ true → module_at n m.0 ≡ Some r → t < n.horizon → u < t + 1 + delay_of r p →
    level (excerpt n active on) w u ≡ level n w u

-- a wire that is off stays at its initial level
abbrev pub OffWiresRest : Type 0
OffWiresRest = (n : Circuit) → IsCircuit n → (active on : ℕ → Bool) → ArePortsOn n active on → (w t : ℕ) → on w ≡ false →
    level (excerpt n active on) w t ≡ initial_of (wire_at n w)

-- what drives a wire in the excerpt: a wire that is on has its driver, but a stimulus in place of a module that isn't active
abbrev pub driver_on : (ℕ → Bool) → Driver → Driver
driver_on active Nothing = Nothing
driver_on active Stimulus = Stimulus
driver_on active (Port m p) = if active m.0 then Port m p else Stimulus

abbrev pub ExcerptsHaveDrivers : Type 0
ExcerptsHaveDrivers = (n : Circuit) → IsCircuit n → (active on : ℕ → Bool) → ArePortsOn n active on → (w : ℕ) →
    driver (excerpt n active on) w ≡ (if on w then driver_on active (driver n w) else Nothing)
