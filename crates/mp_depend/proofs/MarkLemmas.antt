-- Modules that are marked.
use Rattle.std.proofs.Common.{◌≡◌, ℕ, ◌<◌, Bool, true, List, length}
use Rattle.std.specs.List.{Contains}
use Rattle.mp_records.specs.declared.ids.ModuleId.{ModuleId}
use Rattle.mp_partition.specs.runs.Marks.{is_marked}

-- marks of these modules
pub record AreMarked (ids : List ModuleId) (count : ℕ) (marks : List Bool) : Type 0 where
  pub places : length marks ≡ count
  pub marked : (m : ℕ) → is_marked marks m ≡ true → Contains ids (record { 0 = m })
  pub all : (m : ℕ) → m < count → Contains ids (record { 0 = m }) → is_marked marks m ≡ true
