-- Modules that are marked, and listed.
use Rattle.std.specs.Prelude.{◌≡◌, ℕ, ◌<◌, Bool, true, false, List, length, slice_index_or}
use Rattle.std.specs.List.{Contains}
use Rattle.mp_records.specs.declared.ids.ModuleId.{ModuleId}

abbrev pub is_marked : List Bool → ℕ → Bool
is_marked marks m = slice_index_or marks m false

-- every marked module is listed
abbrev pub AreListed : List Bool → List ModuleId → Type 0
AreListed marks due = (m : ℕ) → is_marked marks m ≡ true → Contains due (record { 0 = m })

-- all of these are marked beside those that were, and still every marked one is listed
pub record AreAdded (ids : List ModuleId) (marks new : List Bool) (due new_due : List ModuleId) : Type 0 where
  pub places : length new ≡ length marks
  pub kept : (m : ℕ) → is_marked marks m ≡ true → is_marked new m ≡ true
  pub told : (m : ℕ) → m < length marks → Contains ids (record { 0 = m }) → is_marked new m ≡ true
  pub listed : AreListed marks due → AreListed new new_due
