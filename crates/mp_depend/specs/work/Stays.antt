-- What a change of a netlist leaves as it was.
use Rattle.std.specs.Prelude.{◌≡◌, ◌≢◌, ◌↔◌, ℕ, ◌+◌, ◌<◌, ◌≤◌, Some, length}
use Rattle.mp_records.specs.declared.ids.ModuleId.{ModuleId}
use Rattle.mp_records.specs.declared.module_record.ModuleRecord.{ModuleRecord}
use Rattle.mp_records.specs.Inputs.{input_at}
use Rattle.mp_records.specs.Outputs.{delay_of}
use Rattle.mp_netlist.specs.declared.driver.Driver.TheVariants.{Port}
use Rattle.mp_netlist.specs.Circuit.{Circuit, IsCircuit, module_at}
use Rattle.mp_netlist.specs.Drivers.{driver}
use Rattle.mp_model.specs.Levels.{input_by}
use Rattle.mp_model.specs.Waves.{level, state}
use Rattle.mp_model.specs.Reach.{IsApart, IsReached}
use Rattle.mp_depend.specs.work.Revisions.{IsRevision, IsKept, AgreeBefore, IsDrivenAlike}

-- states that agree before the time a agree from then on to before b, where the module isn't apart in between
abbrev pub StatesStay : Type 0
StatesStay = (old new : Circuit) → IsCircuit old → IsCircuit new → IsRevision old new → (m : ℕ) (r : ModuleRecord) → IsKept old new m r →
    (a b : ℕ) → AgreeBefore old new m a → ((t : ℕ) → a ≤ t → t < b → IsApart old new m t → ⊥) →
    (t : ℕ) → a ≤ t → t < b → state old m t ≡ state new m t

-- so the states of a module that isn't reached before a time agree before it
abbrev pub UnreachedStates : Type 0
UnreachedStates = (old new : Circuit) → IsCircuit old → IsCircuit new → IsRevision old new → (m : ℕ) (r : ModuleRecord) → IsKept old new m r →
    (b : ℕ) → (IsReached old new m b → ⊥) → (t : ℕ) → t < b → state old m t ≡ state new m t

-- the state that the level of a wire at a time comes from, if any, is the same in both netlists
abbrev pub SourceAgrees : Circuit → Circuit → ℕ → ℕ → Type 0
SourceAgrees old new w t = (m : ModuleId) (p u : ℕ) (r : ModuleRecord) → driver new w ≡ Port m p → module_at new m.0 ≡ Some r → u + delay_of r p ≡ t →
    state old m.0 u ≡ state new m.0 u

-- the level of a wire that the same drives is the same wherever its source agrees
abbrev pub LevelsStay : Type 0
LevelsStay = (old new : Circuit) → IsCircuit old → IsCircuit new → IsRevision old new → (w : ℕ) → IsDrivenAlike old new w →
    (t : ℕ) → SourceAgrees old new w t → level old w t ≡ level new w t

-- so it is where no module that is reached before the time drives the wire
abbrev pub UnreachedLevels : Type 0
UnreachedLevels = (old new : Circuit) → IsCircuit old → IsCircuit new → IsRevision old new → (w : ℕ) → IsDrivenAlike old new w →
    (b : ℕ) → ((m : ModuleId) (p : ℕ) → driver new w ≡ Port m p → IsReached old new m.0 b → ⊥) →
    (t : ℕ) → t ≤ b → level old w t ≡ level new w t

-- one of a module's inputs has other levels in two netlists at a time
abbrev pub IsInputApart : Circuit → Circuit → ModuleRecord → ℕ → Type 0
IsInputApart old new r t = (p : ℕ) × (p < length r.inputs) × (input_by old (level old) (input_at r p) t ≢ input_by new (level new) (input_at r p) t)

-- a module that isn't touched is apart just where an input is
abbrev pub ApartByInputs : Type 0
ApartByInputs = (old new : Circuit) (m t : ℕ) (r : ModuleRecord) → IsKept old new m r → IsApart old new m t ↔ IsInputApart old new r t
