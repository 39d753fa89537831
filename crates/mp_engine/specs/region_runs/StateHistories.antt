-- The states that a run of a whole netlist keeps on its way.
use Rattle.std.specs.Prelude.{◌≡◌, ℕ, ◌<◌, ◌≤◌, Bool, false, List, [], ◌∷◌, All, Option, Some, None, IfSome, length, map, slice_index_or}
use Rattle.mp_modules.specs.Memories.{blank}
use Rattle.mp_modules.specs.storage.AnyModules.{start}
use Rattle.mp_records.specs.declared.ids.ModuleId.{ModuleId}
use Rattle.mp_records.specs.declared.module_record.ModuleRecord.{ModuleRecord}
use Rattle.mp_netlist.specs.Circuit.{Circuit, module_at}
use Rattle.mp_model.specs.Levels.{built}
use Rattle.mp_model.specs.Waves.{state}
use Rattle.mp_partition.specs.declared.runs.checkpoint.Checkpoint.{Checkpoint}
use Rattle.mp_partition.specs.runs.Checkpoints.{kept_at, last_kept, state_before, IsBorder}
use Rattle.mp_partition.specs.runs.Marks.{is_marked, AreListed, AreAdded}
use Rattle.mp_engine.specs.declared.region_runs.state_history.StateHistory.{StateHistory}

abbrev pub kept_of : List (List Checkpoint) → ℕ → List Checkpoint
kept_of kept m = slice_index_or kept m []

abbrev pub id_of : ℕ → ModuleId
id_of m = record { 0 = m }

abbrev pub ids_of : List ℕ → List ModuleId
ids_of numbers = map id_of numbers

-- the states of a module before the borders below b are kept, and unless it has fired since, the last is its state at t
pub record IsKept (n : Circuit) (b t m : ℕ) (r : ModuleRecord) (fired : Bool) (ks : List Checkpoint) : Type 0 where
  pub known : (c : ℕ) → IsBorder n.horizon c → c < b → kept_at ks c blank ≡ state_before n m r c
  pub last : fired ≡ false → last_kept ks blank ≡ state n m t

-- so it is for each module, and nothing is kept for times after b
pub record AreKept (n : Circuit) (b t : ℕ) (marks : List Bool) (kept : List (List Checkpoint)) : Type 0 where
  pub mark_places : length marks ≡ length n.modules
  pub places : length kept ≡ length n.modules
  pub times : (m : ℕ) → All (λ k. k.time ≤ b) (kept_of kept m)
  pub each : (m : ℕ) (r : ModuleRecord) → module_at n m ≡ Some r → IsKept n b t m r (is_marked marks m) (kept_of kept m)

-- and the modules that have fired since are listed
pub record IsStateHistory (n : Circuit) (b t : ℕ) (h : StateHistory) : Type 0 where
  pub kept : AreKept n b t h.marks.items h.kept.items
  pub listed : AreListed h.marks.items h.list.items

-- so it is, where states are kept
abbrev pub HasHistory : Circuit → ℕ → ℕ → Option StateHistory → Type 0
HasHistory n b t history = IfSome history (IsStateHistory n b t)

-- and they are, if they are to be
abbrev pub IsHistory : Circuit → Bool → ℕ → ℕ → Option StateHistory → Type 0
IsHistory n keeps b t None = keeps ≡ false
IsHistory n keeps b t (Some h) = IsStateHistory n b t h

-- no module has fired since the last border, where states are kept
abbrev pub AllAreKept : Option StateHistory → Type 0
AllAreKept history = IfSome history (λ h. h.list.items ≡ [])

-- modules are marked where states are kept
abbrev pub HasMarked : List ℕ → Option StateHistory → Option StateHistory → Type 0
HasMarked numbers None None = Unit {0}
HasMarked numbers None (Some new) = ⊥
HasMarked numbers (Some old) None = ⊥
HasMarked numbers (Some old) (Some new) = AreAdded (ids_of numbers) old.marks.items new.marks.items old.list.items new.list.items × (new.kept.items ≡ old.kept.items)

-- the state before time 0 of what stands in a module's slot
abbrev pub first_kept : Circuit → Option ModuleRecord → List Checkpoint
first_kept n None = []
first_kept n (Some r) = record { time = 0; memory = start (built n r) } ∷ []

-- the states before time 0 are kept, of the modules below a number
pub record AreFirst (n : Circuit) (modules : ℕ) (kept : List (List Checkpoint)) : Type 0 where
  pub places : length kept ≡ modules
  pub each : (m : ℕ) → m < modules → kept_of kept m ≡ first_kept n (module_at n m)
