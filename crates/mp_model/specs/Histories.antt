-- The states of all modules, unit by unit: a row for each time, from time 0 on, and in it a state for each module, by number.
use Rattle.std.specs.Prelude.{ℕ, ◌+◌, ◌-◌, List, [], ◌∷◌, ◌++◌, Option, Some, None, slice_index_or, ◌==◌, if◌then◌else◌, zero, suc}
use Rattle.mp_modules.specs.declared.memory.Memory.{Memory}
use Rattle.mp_modules.specs.Memories.{blank}
use Rattle.mp_modules.specs.storage.AnyModules.{settle, step}
use Rattle.mp_records.specs.declared.module_record.ModuleRecord.{ModuleRecord}
use Rattle.mp_netlist.specs.Circuit.{Circuit}
use Rattle.mp_model.specs.Levels.{level_by, inputs_by, built}

abbrev pub state_in : List (List Memory) → ℕ → ℕ → Memory
state_in history m t = slice_index_or (slice_index_or history t []) m blank

abbrev pub level_in : Circuit → List (List Memory) → ℕ → ℕ → ℕ
level_in n history w t = level_by n (λ m u. state_in history m u) w t

abbrev pub inputs_in : Circuit → List (List Memory) → ModuleRecord → ℕ → List ℕ
inputs_in n history r t = inputs_by n (λ w u. level_in n history w u) r t

-- the state of a module at a time, after the states of all modules before
abbrev pub next_state : Circuit → List (List Memory) → ℕ → ℕ → ModuleRecord → Memory
next_state n history t m r =
    if t == 0 then settle (built n r) (inputs_in n history r t)
    else step (built n r) (state_in history m (t - 1)) (inputs_in n history r t)

abbrev pub slot_state : Circuit → List (List Memory) → ℕ → ℕ → Option ModuleRecord → Memory
slot_state n history t m None = blank
slot_state n history t m (Some r) = next_state n history t m r

abbrev pub row_from : Circuit → List (List Memory) → ℕ → ℕ → List (Option ModuleRecord) → List Memory
row_from n history t m [] = []
row_from n history t m (slot ∷ slots) = slot_state n history t m slot ∷ row_from n history t (m + 1) slots

abbrev pub next_row : Circuit → List (List Memory) → ℕ → List Memory
next_row n history t = row_from n history t 0 n.modules

-- the rows of the times below t
unfoldable pub history : Circuit → ℕ → List (List Memory)
history n zero = []
history n (suc t) = history n t ++ next_row n (history n t) t ∷ []
