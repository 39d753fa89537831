-- What a script asks for.
use Rattle.std.specs.Prelude.{◌∷◌, if◌then◌else◌, true, nat_lt}
use Rattle.mp_text.specs.Names.{bytes_eq, Bool, false, LineError, WordCount, BadNumber, ◌>>=◌, number_word, ℕ, List, [], Option, Some, None, Result, Ok, Err, codes, QuestionWord, Wave, Waves, Text, Report, Check, Steady, Dump, Work, Show, Why, Path, Waits, Measure, Graph, Verilog, Version, Edits}
use Rattle.mp_text.specs.declared.question.Question.{Question}
use Rattle.mp_text.specs.declared.question.Question.TheVariants as questions
use Rattle.mp_text.specs.lexing.WordLists.{count_word}
use Rattle.mp_text.specs.PictureWords.{form_of, options_in, wires_in}
use Rattle.mp_text.specs.Limits.{max_steps, no_end, usual_steps}

-- a wire, a time and a number of steps
abbrev pub chain_question : List ℕ → List ℕ → Result ℕ LineError → Result Question LineError
chain_question wire time steps = do
  t ← number_word time
  k ← steps
  Ok (questions.Why wire t k)

-- how the time of a chain divides from another time on, which is below the chain's own
abbrev pub since_question : List ℕ → List ℕ → List ℕ → Result Question LineError
since_question wire time from = do
  t ← number_word time
  f ← number_word from
  (if nat_lt f t then Ok (questions.Path wire t f) else Err BadNumber)

-- the times from one to before another, or all where there are no words
abbrev pub range_of : List (List ℕ) → Result (ℕ × ℕ) LineError
range_of [] = Ok (0, no_end)
range_of (from ∷ to ∷ []) = do
  f ← number_word from
  t ← number_word to
  Ok (f, t)
range_of words = Err WordCount

abbrev pub report_question : List (List ℕ) → Result Question LineError
report_question words = do
  range ← range_of words
  Ok (questions.Report range.0 range.1)

-- whether the netlist works, brief or not, at the times that words say
abbrev pub check_of : Bool → List (List ℕ) → Result Question LineError
check_of is_brief words = do
  range ← range_of words
  Ok (questions.Check is_brief range.0 range.1)

-- brief, where the first word says so
abbrev pub check_question : List (List ℕ) → Result Question LineError
check_question [] = check_of false []
check_question (word ∷ words) = if bytes_eq word (codes "brief") then check_of true words else check_of false (word ∷ words)

-- the timing diagram from one time to before another, of the wires and in the form that the words behind them say
abbrev pub picture_question : List ℕ → List ℕ → List (List ℕ) → Result Question LineError
picture_question from to words = do
  form ← form_of (options_in words)
  f ← number_word from
  t ← number_word to
  Ok (questions.Show f t (wires_in words) form)

-- the first word of a question that has no words behind it
abbrev pub lone_word : List ℕ → Option QuestionWord
lone_word word =
    if bytes_eq word (codes "waves") then Some Waves
    else (if bytes_eq word (codes "text") then Some Text
    else (if bytes_eq word (codes "steady") then Some Steady
    else (if bytes_eq word (codes "dump") then Some Dump
    else (if bytes_eq word (codes "work") then Some Work
    else (if bytes_eq word (codes "graph") then Some Graph
    else (if bytes_eq word (codes "verilog") then Some Verilog
    else (if bytes_eq word (codes "version") then Some Version
    else None)))))))

-- the first word of a question
abbrev pub question_word : List ℕ → Option QuestionWord
question_word word =
    if bytes_eq word (codes "wave") then Some Wave
    else (if bytes_eq word (codes "report") then Some Report
    else (if bytes_eq word (codes "check") then Some Check
    else (if bytes_eq word (codes "show") then Some Show
    else (if bytes_eq word (codes "why") then Some Why
    else (if bytes_eq word (codes "path") then Some Path
    else (if bytes_eq word (codes "waits") then Some Waits
    else (if bytes_eq word (codes "measure") then Some Measure
    else (if bytes_eq word (codes "edits") then Some Edits
    else lone_word word))))))))

-- the question of that word and the words behind it
abbrev pub stated_question : QuestionWord → List (List ℕ) → Result Question LineError
stated_question Wave (wire ∷ []) = Ok (questions.Wave wire)
stated_question Waves [] = Ok questions.Waves
stated_question Text [] = Ok questions.Text
stated_question Report words = report_question words
stated_question Check words = check_question words
stated_question Steady [] = Ok questions.Steady
stated_question Dump [] = Ok questions.Dump
stated_question Work [] = Ok questions.Work
stated_question Show (from ∷ to ∷ words) = picture_question from to words
stated_question Why (wire ∷ time ∷ []) = chain_question wire time (Ok usual_steps)
stated_question Why (wire ∷ time ∷ steps ∷ []) = chain_question wire time (count_word steps max_steps)
stated_question Path (wire ∷ time ∷ []) = do
  t ← number_word time
  Ok (questions.Path wire t 0)
stated_question Path (wire ∷ time ∷ from ∷ []) = since_question wire time from
stated_question Waits (time ∷ []) = do
  t ← number_word time
  Ok (questions.Waits t)
stated_question Measure (from ∷ to ∷ wires) = do
  f ← number_word from
  t ← number_word to
  Ok (questions.Measure f t wires)
stated_question Graph [] = Ok questions.Graph
stated_question Verilog [] = Ok questions.Verilog
stated_question Version [] = Ok questions.Version
stated_question Edits (from ∷ []) = do
  f ← number_word from
  Ok (questions.Edits f)
stated_question _ _ = Err WordCount
