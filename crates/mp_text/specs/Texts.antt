-- What a netlist's text means.
use Rattle.std.specs.Prelude.{◌≡◌, ◌⊎◌, ◌+◌, ◌≤◌, ◌∷◌, ◌&&◌, if◌then◌else◌}
use Rattle.mp_text.specs.Names.{result_map_both, Circuit, empty_circuit, after_single, LineError, UnknownStatement, BadNumber, OutOfMemory, lines_of, line_words, ◌>>=◌, ℕ, List, [], length, Result, Ok, Err, nat_le, TextCode, Line, BadFormat, NoHorizon, SecondHorizon, Refused, TooLong, TextError, TextFormat, First, TextState, Fresh, Formatted, Open}
use Rattle.mp_records.specs.declared.edit_error.EditError.{EditError}
use Rattle.mp_records.specs.declared.edit_error.EditError.TheVariants as edits
use Rattle.mp_text.specs.Formats.{format_of, max_horizon_of, netlist_format}
use Rattle.mp_text.specs.Sizes.{text_limit}
use Rattle.mp_text.specs.Statements.{Statement, Blank, Unknown, Format, Start, Change, stated_edit, statement_of}

-- what a line says, as a part of a text
abbrev pub in_text : {A : Type 0} → Result A LineError → Result A TextCode
in_text (Ok x) = Ok x
in_text (Err error) = Err (Line error)

-- a text of that form
abbrev pub formatted : Result TextFormat TextCode → Result TextState TextCode
formatted (Ok format) = Ok (Formatted format)
formatted (Err code) = Err code

-- the empty netlist of a horizon that a text of this form may state
abbrev pub begun : TextFormat → ℕ → Result TextState TextCode
begun format h = if nat_le 1 h && nat_le h (max_horizon_of format) then Ok (Open (empty_circuit (netlist_format format) h)) else Err (Line BadNumber)

-- where a text is after a statement: its form, if it is stated, is the first, and its horizon comes before the edits
unfoldable pub after_statement : TextState → Statement → Result TextState TextCode
after_statement state Blank = Ok state
after_statement state Unknown = Err (Line UnknownStatement)
after_statement Fresh (Format number) = do
  n ← in_text number
  formatted (format_of n)
after_statement (Formatted format) (Format number) = Err BadFormat
after_statement (Open n) (Format number) = Err BadFormat
after_statement Fresh (Start horizon) = do
  h ← in_text horizon
  begun First h
after_statement (Formatted format) (Start horizon) = do
  h ← in_text horizon
  begun format h
after_statement (Open n) (Start horizon) = Err SecondHorizon
after_statement Fresh (Change word words) = Err NoHorizon
after_statement (Formatted format) (Change word words) = Err NoHorizon
after_statement (Open n) (Change word words) = do
  e ← in_text (stated_edit n.format word words)
  result_map_both Open Refused (after_single n e)

-- how an edit ended, as it is told of the line that states it: want of memory is that of the line
abbrev pub told : {A : Type 0} → Result A EditError → Result A TextCode
told (Ok x) = Ok x
told (Err edits.OutOfMemory) = Err (Line OutOfMemory)
told (Err error) = Err (Refused error)

-- where a text is after a line
unfoldable pub after_line : TextState → List ℕ → Result TextState TextCode
after_line state line = do
  words ← in_text (line_words line)
  after_statement state (statement_of words)

abbrev pub finished : ℕ → TextState → Result Circuit TextError
finished n Fresh = Err (record { line = n; code = NoHorizon })
finished n (Formatted format) = Err (record { line = n; code = NoHorizon })
finished n (Open net) = Ok net

-- goes on where the line, the one after n, was read
abbrev pub next_line : ℕ → (TextState → Result Circuit TextError) → Result TextState TextCode → Result Circuit TextError
next_line n go (Ok state) = go state
next_line n go (Err code) = Err (record { line = n + 1; code = code })

-- the netlist after the lines, of which n came before
unfoldable pub after_lines : ℕ → TextState → List (List ℕ) → Result Circuit TextError
after_lines n state [] = finished n state
after_lines n state (line ∷ lines) = next_line n (λ after. after_lines (n + 1) after lines) (after_line state line)

-- the netlist of a text, or the first line that fails
unfoldable pub text_at : List ℕ → Result Circuit TextError
text_at text = if nat_le (length text) (text_limit text) then after_lines 0 Fresh (lines_of text) else Err (record { line = 0; code = TooLong })

-- the whole text was read, or its first fault is told, or memory ran out at some line
abbrev pub GivesText : {X : Type 0} → Result X TextError → Result X TextError → Type 0
GivesText (Ok x) read = read ≡ Ok x
GivesText (Err error) read = (error.code ≡ Line OutOfMemory) ⊎ (read ≡ Err error)

-- the line at which the reading of a text ends: the first that fails, or the last
abbrev pub last_line : List ℕ → Result Circuit TextError → ℕ
last_line text (Ok n) = length (lines_of text)
last_line text (Err error) = error.line

-- want of memory is told of a line that was reached, where so much of a text is read
abbrev pub IsReachedIn : List ℕ → Result Circuit TextError → TextError → Type 0
IsReachedIn text read error = error.code ≡ Line OutOfMemory → (1 ≤ error.line) × (error.line ≤ last_line text read)

abbrev pub IsReached : List ℕ → TextError → Type 0
IsReached text error = IsReachedIn text (text_at text) error
