-- Where the words of a line stand: from the place of the first byte to the place behind the last.
use Rattle.std.specs.Prelude.{ℕ, zero, suc, ◌+◌, ◌==◌, List, length, drop, not, if◌then◌else◌}
use Rattle.std.specs.List.{position_or_len}
use Rattle.mp_text.specs.Names.{is_gap, is_allowed}

-- how many gaps stand before the first word
abbrev pub gap_count : List ℕ → ℕ
gap_count bytes = position_or_len (λ b. not (is_gap b)) bytes

-- where the first word ends
abbrev pub word_end : List ℕ → ℕ
word_end bytes = gap_count bytes + position_or_len is_gap (drop (gap_count bytes) bytes)

-- the word behind so many others, of bytes behind a place; the byte behind the last word where there are fewer
unfoldable pub span_from : ℕ → ℕ → List ℕ → ℕ × ℕ
span_from zero at bytes = if gap_count bytes == length bytes then (at, at + 1) else (at + gap_count bytes, at + word_end bytes)
span_from (suc count) at bytes =
    if gap_count bytes == length bytes then (at, at + 1) else span_from count (at + word_end bytes) (drop (word_end bytes) bytes)

-- where the first byte that isn't allowed stands
abbrev pub bad_byte : List ℕ → ℕ
bad_byte line = position_or_len (λ b. not (is_allowed b)) line

-- the first bytes in a row that aren't allowed
abbrev pub bad_span : List ℕ → ℕ × ℕ
bad_span line = (bad_byte line, bad_byte line + position_or_len is_allowed (drop (bad_byte line) line))
