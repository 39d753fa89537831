-- The levels of numbers.
use Rattle.std.specs.Prelude.{ℕ, ◌-◌, List, [], ◌∷◌, Option, Some, None, slice_index, slice_set}
use Rattle.mp_kernel.specs.declared.datapath.level_change.LevelChange.{LevelChange}

-- the level of a number, 0 where there is none
abbrev pub level_at : List ℕ → Option ℕ → ℕ
level_at levels None = 0
level_at levels (Some x) = slice_index levels x

-- after these numbers of width 1 have toggled
abbrev pub toggled : List ℕ → List ℕ → List ℕ
toggled levels [] = levels
toggled levels (x ∷ xs) = toggled (slice_set levels x (1 - slice_index levels x)) xs

-- after these changes
abbrev pub changed : List ℕ → List LevelChange → List ℕ
changed levels [] = levels
changed levels (c ∷ cs) = changed (slice_set levels c.number c.level) cs
