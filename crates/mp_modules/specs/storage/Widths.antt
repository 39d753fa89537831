-- Sums that wrap at a width.
use Rattle.std.specs.Prelude.{ℕ, ◌^◌, min}

-- two to the power of the width, which is at most 64 bits
abbrev pub modulus : ℕ → ℕ
modulus width = 2 ^ min width 64
