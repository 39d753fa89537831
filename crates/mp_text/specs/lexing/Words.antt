-- The words of a line.
use Rattle.std.specs.Prelude.{◌||◌, ◌&&◌, ◌==◌}
use Rattle.mp_text.specs.lexing.Names.{ℕ, Bool, not, List, length, filter, map, All, IsAscii, Bor, byte, nat_le, nat_lt, slice_split, before_first}

-- a space, a tab or a carriage return
abbrev pub is_gap : ℕ → Bool
is_gap b = b == 32 || (b == 9 || b == 13)

-- printed, and neither a space nor the start of a comment
abbrev pub is_word_byte : ℕ → Bool
is_word_byte b = nat_lt 32 b && (nat_le b 126 && not (b == 35))

abbrev pub is_word : List ℕ → Bool
is_word part = not (length part == 0)

-- what stands before a comment
abbrev pub statement_part : List ℕ → List ℕ
statement_part line = before_first (λ b. b == byte "#") line

-- the words before a comment
unfoldable pub words_of : List ℕ → List (List ℕ)
words_of line = filter is_word (slice_split is_gap (statement_part line))

-- words without where they lie in memory
abbrev pub texts : List (Bor (List ℕ)) → List (List ℕ)
texts words = map (λ word. word.now) words

-- each word is ASCII, and so text
abbrev pub AreAscii : List (Bor (List ℕ)) → Type 0
AreAscii words = All (λ word. IsAscii word.now) words
