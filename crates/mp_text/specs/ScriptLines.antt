-- What a script's line says.
use Rattle.std.specs.Prelude.{◌∷◌, if◌then◌else◌}
use Rattle.mp_text.specs.Names.{ok_or, bytes_eq, SingleEdit, LineError, UnknownStatement, line_words, ◌>>=◌, ℕ, List, [], Option, Some, None, Result, Ok, Err, codes, option_map, LineWord, Single, Batch, Question, Empty, Change, Ask, QuestionWord, SingleWord}
use Rattle.mp_records.specs.declared.edit.Edit.TheVariants as edits
use Rattle.mp_text.specs.declared.script_line.Line.{Line}
use Rattle.mp_text.specs.declared.question.Question.{Question as Asked}
use Rattle.mp_text.specs.SingleEdits.{single_word, single_edit}
use Rattle.mp_text.specs.Batches.{batch_of}
use Rattle.mp_text.specs.Questions.{question_word, stated_question}

abbrev pub single_line : Result SingleEdit LineError → Result Line LineError
single_line (Ok edit) = Ok (Change (edits.Single edit))
single_line (Err error) = Err error

abbrev pub batch_line : Result (List SingleEdit) LineError → Result Line LineError
batch_line (Ok batch) = Ok (Change (edits.Batch batch))
batch_line (Err error) = Err error

abbrev pub question_line : Result Asked LineError → Result Line LineError
question_line (Ok question) = Ok (Ask question)
question_line (Err error) = Err error

-- the first word of a question, or else that of an edit of one thing
abbrev pub known_word : Option QuestionWord → Option SingleWord → Option LineWord
known_word (Some question) single = Some (Question question)
known_word None single = option_map Single single

-- a line's first word
abbrev pub line_word : List ℕ → Option LineWord
line_word word =
    if bytes_eq word (codes "batch") then Some Batch
    else known_word (question_word word) (single_word word)

-- the line of that word and the words behind it
abbrev pub stated_line : LineWord → List (List ℕ) → Result Line LineError
stated_line (Single word) words = single_line (single_edit word words)
stated_line Batch words = batch_line (batch_of words)
stated_line (Question word) words = question_line (stated_question word words)

-- the line of its words
unfoldable pub line_of : List (List ℕ) → Result Line LineError
line_of [] = Ok Empty
line_of (word ∷ words) = do
  first ← ok_or (line_word word) UnknownStatement
  stated_line first words

-- the line of its bytes
unfoldable pub line_at : List ℕ → Result Line LineError
line_at line = do
  words ← line_words line
  line_of words
