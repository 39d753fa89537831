-- The identifier codes of wires.
use Rattle.std.specs.Prelude.{◌+◌, ◌/◌, ◌%◌, ◌∷◌, if◌then◌else◌}
use Rattle.mp_exports.specs.vcd.Names.{ℕ, List, [], nat_lt, zero, suc}

-- the digits of a number in base 94, so many at most, the least first: a digit is the character so far behind `!`
abbrev pub digits_of : ℕ → ℕ → List ℕ
digits_of zero n = []
digits_of (suc most) n = (33 + n % 94) ∷ (if nat_lt n 94 then [] else digits_of most (n / 94))

-- the identifier code of the wire of this number: its digits in base 94
unfoldable pub code : ℕ → List ℕ
code w = digits_of (suc w) w
