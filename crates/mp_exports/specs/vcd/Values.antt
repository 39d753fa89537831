-- How the level of a wire is written.
use Rattle.std.specs.Prelude.{◌+◌, ◌/◌, ◌%◌, ◌∷◌, ◌++◌, ◌==◌, if◌then◌else◌}
use Rattle.mp_exports.specs.vcd.Names.{ℕ, List, [], zero, suc}
use Rattle.mp_exports.specs.vcd.Codes.{code}

-- a binary digit
abbrev pub bit : ℕ → ℕ
bit level = 48 + level % 2

-- the binary digits of a level, so many, the greatest first
unfoldable pub bits : ℕ → ℕ → List ℕ
bits zero level = []
bits (suc width) level = bits width (level / 2) ++ bit level ∷ []

-- a scalar is its digit; a vector is `b`, its digits and a space
abbrev pub value_text : ℕ → ℕ → List ℕ
value_text width level = if width == 1 then bit level ∷ [] else 98 ∷ (bits width level ++ 32 ∷ [])

-- the value and the code of the wire of a number
abbrev pub value_line : ℕ → ℕ → ℕ → List ℕ
value_line width w level = value_text width level ++ (code w ++ 10 ∷ [])
