-- Inputs of several parts.
use Rattle.std.specs.Prelude.{◌∷◌}
use Rattle.mp_text.specs.lexing.Names.{ℕ, Bool, false, List, [], map, codes, Bor, before_first, after_first, list_any, slice_split, bytes_eq}
use Rattle.mp_text.specs.lexing.Lines.{lines_of}
use Rattle.mp_text.specs.lexing.Words.{words_of}

abbrev pub are_division : List (List ℕ) → Bool
are_division (word ∷ []) = bytes_eq word (codes "---")
are_division words = false

-- a line whose one word is `---` divides an input
unfoldable pub is_division : List ℕ → Bool
is_division line = are_division (words_of line)

-- the lines of the first part
abbrev pub first_part : List (List ℕ) → List (List ℕ)
first_part lines = before_first is_division lines

-- the lines behind the first division, and none where there is none
abbrev pub later_parts : List (List ℕ) → List (List ℕ)
later_parts lines = after_first is_division lines

-- whether there is a division
abbrev pub are_divided : List (List ℕ) → Bool
are_divided lines = list_any is_division lines

-- the lines of each part: there is one part more than there are divisions
abbrev pub parts_of : List (List ℕ) → List (List (List ℕ))
parts_of lines = slice_split is_division lines

-- the lines of some texts
abbrev pub lines_of_each : List (Bor (List ℕ)) → List (List (List ℕ))
lines_of_each texts = map (λ text. lines_of text.now) texts
