-- How a script's line begins: what is looked at before memory is taken.
use Rattle.std.specs.Prelude.{◌==◌, ◌||◌, ◌∷◌}
use Rattle.mp_text.specs.Names.{list_all, is_allowed, words_of, ℕ, Bool, false, List, [], length, Option, None, Some, IsTrue, nat_le, EditWord, Wire, Module, Stimulus, Bundle, SingleWord, LineWord, Single, Batch, Question, QuestionWord, Wave, Report, Check, Show, Why, Path, Waits, Measure, Edits}
use Rattle.mp_text.specs.declared.single_word.SingleWord.TheVariants.{Stated, Remove, Clear}
use Rattle.mp_text.specs.ScriptLines.{line_word}

-- whether so many words may stand behind the first word of a statement
abbrev pub statement_takes : EditWord → ℕ → Bool
statement_takes Wire count = count == 3
statement_takes Module count = nat_le 6 count
statement_takes Stimulus count = nat_le 1 count
statement_takes Bundle count = count == 5

-- whether so many words may stand behind the first word of an edit of one thing
abbrev pub single_takes : SingleWord → ℕ → Bool
single_takes (Stated word) count = statement_takes word count
single_takes Remove count = count == 2
single_takes Clear count = count == 1
single_takes port count = count == 3

-- whether so many words may stand behind the first word of a question
abbrev pub question_takes : QuestionWord → ℕ → Bool
question_takes Wave count = count == 1
question_takes Report count = count == 0 || count == 2
question_takes Check count = nat_le count 3
question_takes Show count = nat_le 2 count
question_takes Why count = count == 2 || count == 3
question_takes Path count = count == 2 || count == 3
question_takes Waits count = count == 1
question_takes Measure count = nat_le 2 count
question_takes Edits count = count == 1
question_takes bare count = count == 0

-- whether so many words may stand behind the first word of a line
abbrev pub takes : LineWord → ℕ → Bool
takes (Single word) count = single_takes word count
takes Batch count = nat_le 1 count
takes (Question word) count = question_takes word count

abbrev pub is_taken : Option LineWord → ℕ → Bool
is_taken None count = false
is_taken (Some first) count = takes first count

-- the first word is one that lines have, and so many words may stand behind it
abbrev pub is_begun : List (List ℕ) → Bool
is_begun [] = false
is_begun (word ∷ words) = is_taken (line_word word) (length words)

-- each byte of the line is allowed, and its words begin as those of a line do
abbrev pub HasForm : List ℕ → Type 0
HasForm line = IsTrue (list_all is_allowed line) × IsTrue (is_begun (words_of line))
