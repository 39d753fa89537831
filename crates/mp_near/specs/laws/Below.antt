-- Levels and states that satisfy the equations of a netlist below a time.
use Rattle.std.specs.Prelude.{◌≡◌, ℕ, ◌+◌, ◌<◌, Some}
use Rattle.mp_modules.specs.declared.memory.Memory.{Memory}
use Rattle.mp_modules.specs.storage.AnyModules.{settle, step}
use Rattle.mp_records.specs.declared.module_record.ModuleRecord.{ModuleRecord}
use Rattle.mp_netlist.specs.Circuit.{Circuit, IsCircuit, module_at}
use Rattle.mp_model.specs.Levels.{built, level_by, inputs_by}
use Rattle.mp_model.specs.Waves.{level, state}

-- levels and states that satisfy the equations of each time below h
pub record IsBehaviourBelow (n : Circuit) (h : ℕ) (levels : ℕ → ℕ → ℕ) (states : ℕ → ℕ → Memory) : Type 0 where
  pub driven : (w t : ℕ) → t < h → levels w t ≡ level_by n states w t
  pub settled : (m : ℕ) (r : ModuleRecord) → 0 < h → module_at n m ≡ Some r → states m 0 ≡ settle (built n r) (inputs_by n levels r 0)
  pub stepped : (m t : ℕ) (r : ModuleRecord) → t + 1 < h → module_at n m ≡ Some r → states m (t + 1) ≡ step (built n r) (states m t) (inputs_by n levels r (t + 1))

-- below h they are the levels and states of the netlist
abbrev pub IsOnlyOneBelow : Type 0
IsOnlyOneBelow = (n : Circuit) → IsCircuit n → (h : ℕ) (levels : ℕ → ℕ → ℕ) (states : ℕ → ℕ → Memory) → IsBehaviourBelow n h levels states →
    ((w t : ℕ) → t < h → levels w t ≡ level n w t) × ((m t : ℕ) (r : ModuleRecord) → t < h → module_at n m ≡ Some r → states m t ≡ state n m t)
