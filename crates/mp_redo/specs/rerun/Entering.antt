-- Who enters a gate, and for when.
use Rattle.std.specs.Prelude.{◌≡◌, ℕ, Bool, true, List, All, IsSome}
use Rattle.std.specs.List.{Contains}
use Rattle.mp_records.specs.declared.ids.ModuleId.{ModuleId}
use Rattle.mp_netlist.specs.Circuit.{Circuit, module_at}
use Rattle.mp_depend.specs.work.Work.{IsEntry}
use Rattle.mp_redo.specs.rerun.Joins.{IsOnly}
use Rattle.mp_redo.specs.declared.rerun.join.Join.{Join}

-- each of these modules works from one time to before another
abbrev pub AllWork : Circuit → Circuit → ℕ → ℕ → List ModuleId → Type 0
AllWork old new from to ids = (m : ℕ) → Contains ids (record { 0 = m }) → IsEntry old new m from to

-- a task lets its module enter, from when it begins to the end of its window
abbrev pub Enters : Join → ℕ → ℕ → ℕ → Type 0
Enters join = IsOnly join.«module».0 join.from join.window_end

-- the module of each of these tasks works then
abbrev pub AllTasksWork : Circuit → Circuit → List Join → Type 0
AllTasksWork old new tasks = All (λ (task : Join). IsEntry old new task.«module».0 task.from task.window_end) tasks

-- each active module that stands has passed a gate, from one time to before another
abbrev pub ActiveHavePassed : Circuit → (ℕ → Bool) → (ℕ → ℕ → ℕ → Bool) → ℕ → ℕ → Type 0
ActiveHavePassed new active passed from to = (m : ℕ) → IsSome (module_at new m) → active m ≡ true → passed m from to ≡ true
