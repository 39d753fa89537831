-- What modules that become active within a block do, as tasks.
use Rattle.std.specs.Prelude.{◌≡◌, ℕ, List, Some}
use Rattle.std.specs.List.{Contains}
use Rattle.mp_modules.specs.declared.memory.Memory.{Memory}
use Rattle.mp_records.specs.declared.ids.ModuleId.{ModuleId}
use Rattle.mp_records.specs.declared.module_record.ModuleRecord.{ModuleRecord}
use Rattle.mp_netlist.specs.Circuit.{Circuit, module_at}
use Rattle.mp_model.specs.response.Pieces.{levels_at}
use Rattle.mp_partition.specs.runs.Checkpoints.{state_before}
use Rattle.mp_depend.specs.work.Revisions.{IsKept}
use Rattle.mp_redo.specs.rerun.Joins.{HasCome, IsFor}
use Rattle.mp_redo.specs.declared.rerun.join.Join.{Join}
use Rattle.mp_redo.specs.declared.rerun.join.JoiningState.{JoiningState}

-- these modules stand in both netlists, each with one record
abbrev pub AreKept : Circuit → Circuit → List ModuleId → Type 0
AreKept old new ids = (m : ℕ) → Contains ids (record { 0 = m }) → (r : ModuleRecord) × IsKept old new m r

-- a state to which the task's module comes
abbrev pub IsDone : Join → JoiningState → Type 0
IsDone join state = HasCome join.«module» join.part (levels_at join.inputs.items) join.memory join.from join.to join.window_end state.entry state.memory

-- the module's state before the unit of a time in the old run
abbrev pub IsOldState : Circuit → ℕ → ModuleId → Memory → Type 0
IsOldState old time id memory = (r : ModuleRecord) → module_at old id.0 ≡ Some r → memory ≡ state_before old id.0 r time

-- this is that state, with the module's entry from one time to before another
pub record IsJoiningState (old : Circuit) (time from to : ℕ) (id : ModuleId) (state : JoiningState) : Type 0 where
  pub entry_is : IsFor id from to state.entry
  pub old_state : IsOldState old time id state.memory

-- this is what the task gives
abbrev pub IsTaskOf : Circuit → ℕ → ℕ → ℕ → ModuleId → Join → Type 0
IsTaskOf old time from to id join = (state : JoiningState) → IsDone join state → IsJoiningState old time from to id state
