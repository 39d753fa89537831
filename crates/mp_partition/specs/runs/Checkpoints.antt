-- States of modules that are kept.
use Rattle.std.specs.Prelude.{◌≡◌, ℕ, ◌<◌, ◌≤◌, ◌%◌, List, [], ◌∷◌, All, nat_le, nat_lt, if◌then◌else◌, zero, suc}
use Rattle.mp_modules.specs.declared.memory.Memory.{Memory}
use Rattle.mp_modules.specs.Memories.{blank}
use Rattle.mp_modules.specs.storage.AnyModules.{start}
use Rattle.mp_records.specs.declared.module_record.ModuleRecord.{ModuleRecord}
use Rattle.mp_netlist.specs.Circuit.{Circuit}
use Rattle.mp_netlist.specs.Limits.{checkpoint_units}
use Rattle.mp_model.specs.Levels.{built}
use Rattle.mp_model.specs.Waves.{state}
use Rattle.mp_partition.specs.declared.runs.checkpoint.Checkpoint.{Checkpoint}

-- the last that is kept for a time not after c, or else the memory before
abbrev pub kept_at : List Checkpoint → ℕ → Memory → Memory
kept_at [] c before = before
kept_at (k ∷ ks) c before = if nat_le k.time c then kept_at ks c k.memory else before

-- the last that is kept
abbrev pub last_kept : List Checkpoint → Memory → Memory
last_kept [] before = before
last_kept (k ∷ ks) before = last_kept ks k.memory

-- those before the first that isn't for a time before the end
abbrev pub kept_before : ℕ → List Checkpoint → List Checkpoint
kept_before end [] = []
kept_before end (k ∷ ks) = if nat_lt k.time end then k ∷ kept_before end ks else []

-- what was kept before a time still is, and from then on a state
pub record KeepsFrom (old : List Checkpoint) (time : ℕ) (memory : Memory) (new : List Checkpoint) : Type 0 where
  pub before : (c : ℕ) → c < time → kept_at new c blank ≡ kept_at old c blank
  pub from : (c : ℕ) → time ≤ c → kept_at new c blank ≡ memory
  pub times : All (λ k. k.time ≤ time) new

-- what was kept before a time still is, and from then on, up to an end, what another list keeps
pub record KeepsBetween (old other : List Checkpoint) (from to : ℕ) (new : List Checkpoint) : Type 0 where
  pub before : (c : ℕ) → c < from → kept_at new c blank ≡ kept_at old c blank
  pub within : (c : ℕ) → from ≤ c → c < to → kept_at new c blank ≡ kept_at other c blank
  pub times : All (λ k. k.time < to) new

-- a time at which states are kept, in a run up to a horizon
abbrev pub IsBorder : ℕ → ℕ → Type 0
IsBorder horizon c = c % checkpoint_units horizon ≡ 0

-- the state of the module before the unit of a time
abbrev pub state_before : Circuit → ℕ → ModuleRecord → ℕ → Memory
state_before n m r zero = start (built n r)
state_before n m r (suc u) = state n m u
