-- How long a text may be.
use Rattle.std.specs.Prelude.{◌+◌, ◌&&◌, ◌==◌, ◌∷◌, if◌then◌else◌}
use Rattle.mp_text.specs.Names.{bytes_eq, LineError, lines_of, words_of, number_word, ℕ, Bool, false, List, [], take, length, Result, Ok, Err, codes}
use Rattle.mp_text.specs.Limits.{max_text, max_short_text}

-- the words of the first line that has some
abbrev pub first_words : List (List ℕ) → List (List ℕ)
first_words [] = []
first_words (line ∷ lines) = if length (words_of line) == 0 then first_words lines else words_of line

abbrev pub is_four : Result ℕ LineError → Bool
is_four (Ok number) = number == 4
is_four (Err error) = false

-- the words say that a text has the form 4
abbrev pub states_fourth : List (List ℕ) → Bool
states_fourth (word ∷ number ∷ []) = bytes_eq word (codes "format") && is_four (number_word number)
states_fourth _ = false

-- how many bytes a text may have, by the form that its first line with words states, so far as this is among the bytes that a text of the
-- first form may have and one more
unfoldable pub text_limit : List ℕ → ℕ
text_limit text = if states_fourth (first_words (lines_of (take (max_short_text + 1) text))) then max_text else max_short_text
