-- The label of the times in an SVG.
use Rattle.std.specs.Prelude.{ℕ, nat_le, nat_lt, ◌&&◌, ◌||◌, Bool, List}
use Rattle.std.specs.List.{list_all}
use Rattle.std.specs.Str.{chars}

-- a character that an SVG shows: no control character, and none that XML 1.0 has no place for
abbrev pub is_shown : ℕ → Bool
is_shown c = nat_le 32 c && (nat_lt c 127 || (nat_le 160 c && (nat_lt c 65534 || nat_le 65536 c)))

abbrev pub is_label : List ℕ → Bool
is_label text = list_all is_shown (chars text)
