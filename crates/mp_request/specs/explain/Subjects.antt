-- What can be explained, and what it is called.
use Rattle.std.specs.Prelude.{ℕ, Bool, ◌||◌, List, [], ◌∷◌, ◌++◌, codes, map, unwrap_or}
use Rattle.std.specs.Fmt.{decimal}
use Rattle.std.specs.Str.{bytes_eq, str_eq_ignore_ascii_case}
use Rattle.mp_modules.specs.Findings.{by_number, code_number, code_word}
use Rattle.mp_modules.specs.Kinds.{all_kinds, word_of}
use Rattle.mp_records.specs.declared.edit_error.EditError.{EditError}
use Rattle.mp_records.specs.declared.edit_error.EditError.TheVariants as edits
use Rattle.mp_records.specs.EditErrors.{name_of, number_of}
use Rattle.mp_text.specs.declared.lexing.line_error.LineError.TheVariants as lines
use Rattle.mp_text.specs.declared.text_code.TextCode.{TextCode}
use Rattle.mp_text.specs.declared.text_code.TextCode.TheVariants as texts
use Rattle.mp_text.specs.TextCodes as text_codes
use Rattle.mp_request.specs.declared.explain.seat_code.SeatCode.{SeatCode}
use Rattle.mp_request.specs.declared.explain.seat_code.SeatCode.TheVariants as seats
use Rattle.mp_request.specs.explain.SeatCodes as seat_codes
use Rattle.mp_request.specs.declared.explain.topic.Topic.{Topic}
use Rattle.mp_request.specs.declared.explain.topic.Topic.TheVariants.{Text, Edit, Seat, Finding, Check, Kind as OfKind, Steady}
use Rattle.mp_request.specs.declared.explain.check_word.CheckWord.{CheckWord}
use Rattle.mp_request.specs.declared.explain.check_word.CheckWord.TheVariants.{Late, Deadlock, Becomes, Undriven, Unread, Busy}
use Rattle.mp_request.specs.explain.CheckWords as check_word

abbrev pub edit_name : EditError → List ℕ
edit_name error = unwrap_or (name_of (number_of error)) []

-- as `edit 1 NameTaken` or `kind C`
abbrev pub title : Topic → List ℕ
title (Text code) = codes "text " ++ (decimal (text_codes.number_of code) ++ (codes " " ++ text_codes.name_of code))
title (Edit error) = codes "edit " ++ (decimal (number_of error) ++ (codes " " ++ edit_name error))
title (Seat code) = codes "seat " ++ (decimal (seat_codes.number_of code) ++ (codes " " ++ seat_codes.name_of code))
title (Finding code) = codes "finding " ++ (decimal (code_number code) ++ (codes " " ++ code_word code))
title (Check word) = codes "check " ++ check_word.word_of word
title (OfKind kind) = codes "kind " ++ word_of kind
title Steady = codes "command steady"

abbrev pub is_one_of : List ℕ → ℕ → List ℕ → Bool
is_one_of word number name = str_eq_ignore_ascii_case word name || bytes_eq word (decimal number)

-- whether a word is the name of a subject, in capital or small letters, or, of a code, its number
abbrev pub is_called : List ℕ → Topic → Bool
is_called word (Text code) = is_one_of word (text_codes.number_of code) (text_codes.name_of code)
is_called word (Edit error) = is_one_of word (number_of error) (edit_name error)
is_called word (Seat code) = is_one_of word (seat_codes.number_of code) (seat_codes.name_of code)
is_called word (Finding code) = is_one_of word (code_number code) (code_word code)
is_called word (Check check) = str_eq_ignore_ascii_case word (check_word.word_of check)
is_called word (OfKind kind) = str_eq_ignore_ascii_case word (word_of kind)
is_called word Steady = str_eq_ignore_ascii_case word (codes "steady")

-- the faults of a text by number; of those that hold another code, one
abbrev pub text_faults : List TextCode
text_faults =
    texts.Line lines.NotAscii ∷ texts.Line lines.UnknownStatement ∷ texts.Line lines.WordCount ∷ texts.Line lines.BadNumber ∷ texts.NoHorizon
    ∷ texts.SecondHorizon ∷ texts.Refused edits.NameTaken ∷ texts.TooLong ∷ texts.Line lines.OutOfMemory ∷ texts.BadFormat ∷ []

-- the refusals of an edit by number; of those that hold another code, one
abbrev pub refusals : List EditError
refusals =
    edits.NameTaken ∷ edits.BadName ∷ edits.NoSuchWire ∷ edits.NoSuchModule ∷ edits.NoSuchBundle ∷ edits.BadWidth ∷ edits.BadLevel ∷ edits.BadDelay
    ∷ edits.BadPort ∷ edits.WrongPorts ∷ edits.BadParam ∷ edits.WidthMismatch ∷ edits.AlreadyDriven ∷ edits.StillUsed ∷ edits.BadStimulus
    ∷ edits.NoStimulus ∷ edits.TableFull ∷ edits.HistoryFull ∷ edits.OutOfMemory ∷ edits.BadBatch ∷ edits.InBatch 2 16 ∷ []

-- the refusals of a seat alone, by number
abbrev pub seat_refusals : List SeatCode
seat_refusals = seats.NotADesigner ∷ seats.NoWork ∷ seats.NotKept ∷ []

-- what a check tells beside findings
abbrev pub check_words : List CheckWord
check_words = Late ∷ Deadlock ∷ Becomes ∷ Undriven ∷ Unread ∷ Busy ∷ []

-- all that can be explained
abbrev pub subjects : List Topic
subjects = map Text text_faults ++ (map Edit refusals ++ (map Seat seat_refusals ++ (map Finding by_number ++ (map Check check_words ++ (map OfKind all_kinds ++ Steady ∷ [])))))
