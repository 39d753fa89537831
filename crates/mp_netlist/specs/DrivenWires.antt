-- Marks of the wires that modules may drive.
use Rattle.std.specs.Prelude.{ℕ, Bool, true, List, slice_index_or}

-- the wire is marked, or there is no place for its mark
abbrev pub may_be_driven : List Bool → ℕ → Bool
may_be_driven marks w = slice_index_or marks w true
