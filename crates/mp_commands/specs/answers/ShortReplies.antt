-- Replies of one line: to edits, and to lines that aren't read.
use Rattle.std.specs.Prelude.{◌∷◌, ◌++◌}
use Rattle.mp_commands.specs.answers.Names.{decimal, InBatch, ℕ, List, [], codes, unwrap_or, EditError, LineError, line_number_of, line_name_of}
use Rattle.mp_records.specs.EditErrors as edits

-- `accepted` and how many edits were
abbrev pub accepted_text : ℕ → List ℕ
accepted_text accepted = codes "accepted " ++ (decimal accepted ++ (10 ∷ []))

-- a word with a number and a name
abbrev pub coded_text : List ℕ → ℕ → List ℕ → List ℕ
coded_text word number name = word ++ ((decimal number ++ (32 ∷ name)) ++ (10 ∷ []))

-- a word with the number and name of a refusal
abbrev pub refusal_text : List ℕ → ℕ → List ℕ
refusal_text word number = coded_text word number (unwrap_or (edits.name_of number) [])

-- `refused` with the number and name of the refusal; of a batch with the place of the edit and its own refusal behind them
abbrev pub refused_text : EditError → List ℕ
refused_text (InBatch place number) = refusal_text (codes "refused 21 InBatch " ++ (decimal place ++ (32 ∷ []))) number
refused_text error = refusal_text (codes "refused ") (edits.number_of error)

-- `unread` with the number and name of the line's fault
abbrev pub unread_text : LineError → List ℕ
unread_text error = coded_text (codes "unread ") (line_number_of error) (line_name_of error)

-- the answer to a line that is too long to be read
abbrev pub too_long_text : List ℕ
too_long_text = codes "unread 8 TooLong" ++ (10 ∷ [])
