-- A list with other entries at some of its places.
use Rattle.std.specs.Prelude.{◌≡◌, ℕ, ◌<◌, List, length, slice_index_or}

-- no two of the places are one
abbrev pub AreApart : List ℕ → Type 0
AreApart places = (j k : ℕ) → j < length places → k < length places → slice_index_or places j 0 ≡ slice_index_or places k 0 → j ≡ k

-- the number isn't one of the places
abbrev pub IsElsewhere : List ℕ → ℕ → Type 0
IsElsewhere places n = (k : ℕ) → k < length places → slice_index_or places k 0 ≡ n → ⊥

-- entry k of the others stands at place k, and all else as before; where no entry stands, blank is read
pub record AreReplaced {X : Type 0} (blank : X) (old : List X) (places : List ℕ) (others new : List X) : Type 0 where
  pub replaced : (k : ℕ) → k < length places → slice_index_or new (slice_index_or places k 0) blank ≡ slice_index_or others k blank
  pub kept : (n : ℕ) → IsElsewhere places n → slice_index_or new n blank ≡ slice_index_or old n blank
