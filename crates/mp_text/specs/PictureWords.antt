-- What the words behind the times of a picture say: wires, and then how it is drawn.
use Rattle.std.specs.Prelude.{◌+◌, ◌*◌, ◌==◌, ◌&&◌, ◌∷◌, if◌then◌else◌, drop, is_some, position}
use Rattle.std.specs.Int.{from_bool}
use Rattle.std.specs.List.{position_or_len}
use Rattle.mp_text.specs.Names.{before_first, byte, bytes_eq, codes, Bool, false, ℕ, List, [], length, Option, Some, None, Result, Ok, Err, LineError, WordCount, ◌>>=◌}
use Rattle.mp_text.specs.lexing.WordLists.{count_word}
use Rattle.mp_text.specs.Limits.{max_columns, usual_columns}
use Rattle.mp_text.specs.PictureForms.{PictureForm}

-- whether a word begins with `--`, as options do and no name does
abbrev pub is_option : List ℕ → Bool
is_option (first ∷ second ∷ rest) = first == byte "-" && second == byte "-"
is_option word = false

-- the names of wires, which stand before the first option
abbrev pub wires_in : List (List ℕ) → List (List ℕ)
wires_in words = before_first is_option words

-- the options, from the first one on
abbrev pub options_in : List (List ℕ) → List (List ℕ)
options_in words = drop (position_or_len is_option words) words

-- where an option stands first
abbrev pub option_place : List ℕ → List (List ℕ) → Option ℕ
option_place option words = position (λ word. bytes_eq word option) words

abbrev pub columns_behind : List (List ℕ) → Result ℕ LineError
columns_behind [] = Err WordCount
columns_behind (word ∷ words) = count_word word max_columns

-- how many columns there may be at most: as many as the word behind `--columns` says, if that stands at a place
abbrev pub columns_at : Option ℕ → List (List ℕ) → Result ℕ LineError
columns_at None words = Ok usual_columns
columns_at (Some place) words = columns_behind (drop (place + 1) words)

-- how many words these options are, each of them once: `--columns` has a number behind it
abbrev pub words_taken : Bool → Bool → Bool → ℕ
words_taken has_columns is_hex is_ascii = 2 * from_bool has_columns + from_bool is_hex + from_bool is_ascii

abbrev pub drawn_at : Option ℕ → Bool → Bool → List (List ℕ) → Result PictureForm LineError
drawn_at place is_hex is_ascii words = do
  columns ← columns_at place words
  Ok (record { columns = columns; is_hex = is_hex; is_ascii = is_ascii })

abbrev pub form_with : Option ℕ → Bool → Bool → List (List ℕ) → Result PictureForm LineError
form_with place is_hex is_ascii words =
    if length words == words_taken (is_some place) is_hex is_ascii then drawn_at place is_hex is_ascii words
    else Err WordCount

-- what the options say: each stands once at most, in any order, and no other word beside them
abbrev pub form_of : List (List ℕ) → Result PictureForm LineError
form_of words =
    form_with (option_place (codes "--columns") words) (is_some (option_place (codes "--hex") words)) (is_some (option_place (codes "--ascii") words)) words
