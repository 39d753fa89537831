-- What words say, alone and in turn.
use Rattle.std.specs.Prelude.{◌&&◌, ◌∷◌, if◌then◌else◌, nat_le}
use Rattle.mp_text.specs.lexing.Names.{ℕ, List, [], Option, Some, None, Result, Ok, Err, codes, option_map, ok_or, list_any, bytes_eq, InputName, OutputName, LineError, BadNumber}
use Rattle.mp_streams.specs.Numbers.{spelled_number}
use Rattle.mp_text.specs.lexing.Numbers.{time_and_value, is_slash, name_and_number}
use Rattle.mp_text.specs.lexing.Reads.{◌>>=◌}

abbrev pub number_word : List ℕ → Result ℕ LineError
number_word word = ok_or (spelled_number word) BadNumber

-- so many, of which there may be 1 to the most
abbrev pub count_word : List ℕ → ℕ → Result ℕ LineError
count_word word most = do
  count ← number_word word
  (if nat_le 1 count && nat_le count most then Ok count else Err BadNumber)

abbrev pub change_word : List ℕ → Result (ℕ × ℕ) LineError
change_word word = ok_or (time_and_value word) BadNumber

abbrev pub input_from : List ℕ × ℕ → InputName
input_from pair = record { wire = pair.0; delay = pair.1 }

-- an input, as `a`, or with its delay, as `a/4`
unfoldable pub input_word : List ℕ → Result InputName LineError
input_word word =
    if list_any is_slash word then ok_or (option_map input_from (name_and_number word)) BadNumber
    else Ok (input_from (word, 0))

-- the wire that is named, where `-` names none
abbrev pub wire_or_none : List ℕ → Option (List ℕ)
wire_or_none name = if bytes_eq name (codes "-") then None else Some name

abbrev pub output_to : List ℕ × ℕ → OutputName
output_to pair = record { wire = wire_or_none pair.0; delay = pair.1 }

-- an output with its delay, as `y/3`, or `-` for one without a wire
unfoldable pub output_word : List ℕ → Result OutputName LineError
output_word word =
    if bytes_eq word (codes "-") then Ok (output_to (word, 1))
    else ok_or (option_map output_to (name_and_number word)) BadNumber

-- what each of the words says, or the code of the first that cannot be read; also of what words make together
unfoldable pub each_word : {W A : Type 0} → (W → Result A LineError) → List W → Result (List A) LineError
each_word read [] = Ok []
each_word read (word ∷ words) = do
  item ← read word
  items ← each_word read words
  Ok (item ∷ items)
