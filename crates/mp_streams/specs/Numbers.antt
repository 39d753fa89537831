-- How numbers are spelled.
use Rattle.std.specs.Prelude.{ℕ, List, [], ◌∷◌, length, Option, Some, None, nat_lt, nat_le, ◌+◌, ◌-◌, ◌*◌, ◌^◌, ◌&&◌, if◌then◌else◌}
use Rattle.std.specs.Char.{is_ascii_digit}
use Rattle.std.specs.Str.{byte}

-- how many digits a number may have
abbrev pub max_digits : ℕ
max_digits = 20

-- the number that the digits spell behind those of n, where it is below 2 ^ 64
unfoldable pub number_from : ℕ → List ℕ → Option ℕ
number_from n [] = if nat_lt n (2 ^ 64) then Some n else None
number_from n (b ∷ bytes) = if is_ascii_digit b then number_from (n * 10 + (b - byte "0")) bytes else None

-- the number that 1 to 20 digits spell, where it is below 2 ^ 64
unfoldable pub spelled_number : List ℕ → Option ℕ
spelled_number word = if nat_le 1 (length word) && nat_le (length word) max_digits then number_from 0 word else None
