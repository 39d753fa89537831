-- Which modules are at a wire.
use Rattle.std.specs.Prelude.{◌≡◌, ◌==◌, ℕ, Bool, true, List, [], length, slice_index_or}
use Rattle.std.specs.List.{list_any}

-- whether the number is one of these
abbrev pub is_in : ℕ → List ℕ → Bool
is_in m row = list_any (λ k. k == m) row

abbrev pub row_at : List (List ℕ) → ℕ → List ℕ
row_at rows w = slice_index_or rows w []

-- each wire has the modules that it had, and maybe more
pub record HasGrown (old new : List (List ℕ)) : Type 0 where
  pub places : length new ≡ length old
  pub kept : (w m : ℕ) → is_in m (row_at old w) ≡ true → is_in m (row_at new w) ≡ true
