-- The word at fault in a line that is wrong by itself.
use Rattle.std.specs.Prelude.{ℕ, ◌+◌, ◌==◌, Bool, List, [], length, drop, nat_lt, if◌then◌else◌, codes, not, is_ok, unwrap_or, slice_get, Result}
use Rattle.std.specs.List.{position_or_len}
use Rattle.std.specs.Str.{bytes_eq}
use Rattle.mp_text.specs.Names.{number_word, change_word, input_word, output_word}
use Rattle.mp_text.specs.declared.lexing.line_error.LineError.{LineError}
use Rattle.mp_text.specs.declared.lexing.line_error.LineError.TheVariants.{UnknownStatement, WordCount, BadNumber}
use Rattle.mp_text.specs.declared.text_code.TextCode.{TextCode}
use Rattle.mp_text.specs.declared.text_code.TextCode.TheVariants.{Line, NoHorizon, BadFormat}
use Rattle.mp_request.specs.declared.faults.word_place.WordPlace.{WordPlace}
use Rattle.mp_request.specs.declared.faults.word_place.WordPlace.TheVariants.{Word, Param, Input, Output}
use Rattle.mp_request.specs.faults.Places.{ModuleParts, module_parts}

-- the first word of a line
abbrev pub begins_with : List ℕ → List (List ℕ) → Bool
begins_with word words = bytes_eq (unwrap_or (slice_get words 0) []) word

-- how many words stand before the first that doesn't read
abbrev pub first_unread : {A : Type 0} → (List ℕ → Result A LineError) → List (List ℕ) → ℕ
first_unread read words = position_or_len (λ word. not (is_ok (read word))) words

-- an input, where there are more than so many inputs, and else an output
abbrev pub port_place : ℕ → ℕ → ℕ → WordPlace
port_place inputs input output = if nat_lt input inputs then Input input else Output output

-- the first word that should be a number, or a port, and isn't
abbrev pub unread_part : ModuleParts → WordPlace
unread_part parts =
    if nat_lt (first_unread number_word parts.params) (length parts.params) then Param (first_unread number_word parts.params)
    else port_place (length parts.inputs) (first_unread input_word parts.inputs) (first_unread output_word parts.outputs)

-- the first word that should be a number, or a pair with a number, and isn't
abbrev pub number_place : List (List ℕ) → WordPlace
number_place words =
    if begins_with (codes "wire") words then Word (2 + first_unread number_word (drop 2 words))
    else (if begins_with (codes "module") words then unread_part (module_parts words)
    else (if begins_with (codes "stim") words then Word (2 + first_unread change_word (drop 2 words))
    else (if begins_with (codes "bundle") words then Word 5
    else Word 1)))

-- where the first input should stand, if there is none, and else the first output
abbrev pub lack_place : ModuleParts → WordPlace
lack_place parts = if length parts.inputs == 0 then Input 0 else Output 0

-- the first word too many, or the end of the line
abbrev pub count_place : List (List ℕ) → WordPlace
count_place words =
    if begins_with (codes "module") words then lack_place (module_parts words)
    else (if begins_with (codes "wire") words then Word 4
    else (if begins_with (codes "bundle") words then Word 6
    else (if begins_with (codes "stim") words then Word (length words)
    else Word 2)))

-- by the fault, in a text whose lines before have no words, or some
abbrev pub word_place : Bool → List (List ℕ) → TextCode → WordPlace
word_place fresh words (Line UnknownStatement) = if begins_with (codes "module") words then Word 2 else Word 0
word_place fresh words (Line WordCount) = count_place words
word_place fresh words (Line BadNumber) = number_place words
word_place fresh words BadFormat = if fresh then Word 1 else Word 0
word_place fresh words NoHorizon = if begins_with (codes "format") words then Word (length words) else Word 0
word_place fresh words code = Word 0
