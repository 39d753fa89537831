-- Items with commas between them.
use Rattle.std.specs.Prelude.{ℕ, Bool, true, false, List, [], ◌∷◌, drop}

abbrev pub has_some : List ℕ → Bool
has_some [] = false
has_some (byte ∷ bytes) = true

-- items with a comma before each, but for the first
abbrev pub without_first : List ℕ → List ℕ
without_first items = drop 1 items
