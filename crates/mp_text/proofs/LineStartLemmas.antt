-- How a line begins decides what it says.
use Rattle.mp_text.proofs.Names.{◌≡◌, ◌-◌, ◌<◌, ◌==◌, ◌||◌, ◌∷◌, if◌then◌else◌, rest_ascii, texts_behind, ℕ, zero, suc, Bool, true, false, cond, List, [], length, drop, None, Some, Result, Ok, Err, IfErr, refl, ap, ◌∙◌, arith, true≢false, length-take, length-drop, nat_le, slice_get, byte, bytes_eq, codes, before_first, after_first, list_all, cases_eq, leb-false, nat_tests, LineError, WordCount, UnknownStatement, NotAscii, OutOfMemory, is_allowed, words_of, ◌>>=◌, statement_takes, question_takes, takes, is_begun, HasForm, is_mark, stated_edit, line_word, stated_line, line_of, line_at, each_word, EditWord, Large, LineWord, Single, Batch, Question, QuestionWord, Empty}
use Rattle.mp_text.specs.declared.script_line.Line.{Line}
use Rattle.mp_text.proofs.GivenLemmas.{wanting_given}
use Rattle.mp_text.specs.Questions.{check_question, range_of, stated_question}

abbrev Words : Type 0
Words = List (List ℕ)

-- a reader of exactly so many words
abbrev TakesOnly : {A : Type 0} → ℕ → (Words → Result A LineError) → Type 0
TakesOnly zero read = (word : List ℕ) (words : Words) → read (word ∷ words) ≡ Err WordCount
TakesOnly (suc n) read = (read [] ≡ Err WordCount) × ((word : List ℕ) → TakesOnly n (λ words. read (word ∷ words)))

-- what it says of another number of them
not_so_many : {A : Type 0} (n : ℕ) (read : Words → Result A LineError) → TakesOnly n read → (words : Words) → (length words == n) ≡ false → read words ≡ Err WordCount
not_so_many zero read only [] wrong = absurd (true≢false wrong)
not_so_many zero read only (word ∷ words) wrong = only word words
not_so_many (suc n) read only [] wrong = only.0
not_so_many (suc n) read only (word ∷ words) wrong = grind (arith, nat_tests, (not_so_many n (λ words. read (word ∷ words)) (only.1 word) words))

abbrev is_colon : List ℕ → Bool
is_colon = is_mark (byte ":")

abbrev is_angle : List ℕ → Bool
is_angle = is_mark (byte ">")

few_ports : (words : Words) → length words < 4
    → (length (before_first is_angle (after_first is_colon words)) == 0 || length (after_first is_angle (after_first is_colon words)) == 0) ≡ true
few_ports words few = grind (arith, nat_tests, cases_eq, length-drop, length-take)

statement_refused : (first : EditWord) (words : Words) → statement_takes first (length words) ≡ false → stated_edit Large first words ≡ Err WordCount
statement_refused first words wrong = grind (arith, nat_tests, not_so_many, few_ports, leb-false)

-- a range of times has two words, or none
range_refused : (words : Words) → (length words == 0 || length words == 2) ≡ false → range_of words ≡ Err WordCount
range_refused [] wrong = absurd (true≢false wrong)
range_refused (from ∷ []) wrong = refl
range_refused (from ∷ to ∷ []) wrong = absurd (true≢false wrong)
range_refused (from ∷ to ∷ word ∷ words) wrong = refl

either_way : {A : Type 0} (b : Bool) (x : A) → (if b then x else x) ≡ x
either_way true x = refl
either_way false x = refl

-- a check has three words at most
check_refused : (words : Words) → nat_le (length words) 3 ≡ false → check_question words ≡ Err WordCount
check_refused [] wrong = absurd (true≢false wrong)
check_refused (a ∷ []) wrong = absurd (true≢false wrong)
check_refused (a ∷ b ∷ []) wrong = absurd (true≢false wrong)
check_refused (a ∷ b ∷ c ∷ []) wrong = absurd (true≢false wrong)
check_refused (a ∷ b ∷ c ∷ d ∷ words) wrong = either_way (bytes_eq a (codes "brief")) (Err WordCount)

question_refused : (first : QuestionWord) (words : Words) → question_takes first (length words) ≡ false → stated_question first words ≡ Err WordCount
question_refused first words wrong = grind (arith, nat_tests, not_so_many, leb-false, (range_refused words), (check_refused words))

-- a first word with another number of words behind it than it takes
refused_by_count : (first : LineWord) (words : Words) → takes first (length words) ≡ false → stated_line first words ≡ Err WordCount
unfolding each_word
refused_by_count (Single word) words wrong = grind (arith, nat_tests, statement_refused, not_so_many)
refused_by_count Batch [] wrong = refl
refused_by_count Batch (word ∷ words) wrong = grind (arith, nat_tests, leb-false)
refused_by_count (Question word) words wrong = grind (arith, nat_tests, question_refused)

-- a line that has a byte that is not allowed
pub not_plain : (line : List ℕ) → list_all is_allowed line ≡ false → line_at line ≡ Err NotAscii
unfolding line_at
not_plain line odd = ap (λ b. cond b (Ok (words_of line)) (Err NotAscii) >>= line_of) odd

-- a line of allowed bytes says what its words say
pub by_words : (line : List ℕ) → list_all is_allowed line ≡ true → line_at line ≡ line_of (words_of line)
unfolding line_at
by_words line plain = ap (λ b. cond b (Ok (words_of line)) (Err NotAscii) >>= line_of) plain

pub without_words : (ws : Words) → slice_get ws 0 ≡ None → line_of ws ≡ Ok Empty
unfolding line_of
without_words ws none = grind (arith, nat_tests)

module _ (ws : Words) (word : List ℕ) (is : slice_get ws 0 ≡ Some word) where
  pub with_unknown_word : line_word word ≡ None → line_of ws ≡ Err UnknownStatement
  unfolding line_of
  with_unknown_word none = grind (arith, nat_tests)

  module _ (first : LineWord) (known : line_word word ≡ Some first) where
    pub as_stated : line_of ws ≡ stated_line first (drop 1 ws)
    unfolding line_of
    as_stated = grind (arith, nat_tests)

    pub with_wrong_count : takes first (length ws - 1) ≡ false → line_of ws ≡ Err WordCount
    with_wrong_count wrong = as_stated ∙ refused_by_count first (drop 1 ws) (ap (takes first) (length-drop 1 ws) ∙ wrong)

    begun : takes first (length ws - 1) ≡ true → is_begun ws ≡ true
    begun right = grind (arith, nat_tests)

pub has_form : (line word : List ℕ) (first : LineWord) → list_all is_allowed line ≡ true → slice_get (words_of line) 0 ≡ Some word → line_word word ≡ Some first
    → takes first (length (words_of line) - 1) ≡ true → HasForm line
has_form line word first plain is known right = (plain, begun (words_of line) word is first known right)

-- a call that wants memory only where the line has its form
pub only_with_form : (result : Result Line LineError) (line : List ℕ) → HasForm line → IfErr result (λ error. error ≡ OutOfMemory → HasForm line)
only_with_form result line form = grind (arith, nat_tests)

pub ruleset read_line_steps = (not_plain, by_words, without_words, with_unknown_word, with_wrong_count, only_with_form, has_form, as_stated, rest_ascii, texts_behind, wanting_given)
