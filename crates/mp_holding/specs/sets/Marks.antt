-- Sets of numbers as marks.
use Rattle.std.specs.Prelude.{ℕ, Bool, false, List, slice_index_or}

-- the mark at a number, none past the end
abbrev pub is_marked : List Bool → ℕ → Bool
is_marked marks k = slice_index_or marks k false
