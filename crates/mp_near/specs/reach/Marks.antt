-- Marks that are set one by one.
use Rattle.std.specs.Prelude.{◌≡◌, ℕ, Bool, true, List, length}
use Rattle.mp_partition.specs.runs.Marks.{is_marked}

-- what was marked still is
pub record AreGrown (marks new : List Bool) : Type 0 where
  pub places : length new ≡ length marks
  pub kept : (k : ℕ) → is_marked marks k ≡ true → is_marked new k ≡ true
