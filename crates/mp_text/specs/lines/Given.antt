-- What is given of a line.
use Rattle.std.specs.Prelude.{ℕ, Bool, List, ◌++◌, length, Option, Some, None, nat_le, nat_lt, if◌then◌else◌}
use Rattle.std.specs.List.{position_or_len}
use Rattle.mp_text.specs.lexing.Lines.{is_line_feed}

-- how many bytes a line may have, without its line feed
abbrev pub max_line : ℕ
max_line = 65536

-- a line is given where it is not too long
abbrev pub given : List ℕ → Option (List ℕ)
given line = if nat_le (length line) max_line then Some line else None

-- what is given of a line that goes on with these bytes
abbrev pub with_more : Option (List ℕ) → List ℕ → Option (List ℕ)
with_more None bytes = None
with_more (Some line) bytes = given (line ++ bytes)

-- whether a line ends in these bytes
abbrev pub has_line_feed : List ℕ → Bool
has_line_feed bytes = nat_lt (position_or_len is_line_feed bytes) (length bytes)
