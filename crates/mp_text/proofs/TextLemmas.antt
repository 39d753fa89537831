-- Facts about texts as a whole.
use Rattle.mp_text.proofs.Names.{◌≡◌, ◌+◌, ◌<◌, ◌≤◌, ◌∷◌, rest_falls, ℕ, List, [], length, Result, Ok, Err, IfErr, refl, sym, ap, arith, before_first, after_first, nat_tests, Circuit, TextError, TextCode, TooLong, TextState, Fresh, lines_of-cons, is_line_feed, lines_of, text_at, after_lines, after_line, next_line, finished, last_line, GivesText, IsReachedIn, text_limit, ◌≢◌, ◌&&◌, ◌==◌, false, None, Some, take, max_short_text, number_word, first_words, is_four, states_fourth, ne_eqb, words_of, take-take, eq-eqb, codes, slice_get}
use Rattle.std.specs.Prelude.{◌⊎◌}
use Rattle.std.specs.Str.{bytes_eq}
use Rattle.std.proofs.Common.{inl, inr, ◌∙◌}
use Rattle.mp_text.specs.Names.{Line, OutOfMemory}

-- a text that is not too long is its lines
pub text_within : (text : List ℕ) → length text ≤ text_limit text → text_at text ≡ after_lines 0 Fresh (lines_of text)
unfolding text_at
text_within text within = grind (arith, nat_tests)

pub text_over : (text : List ℕ) → text_limit text < length text → text_at text ≡ Err (record { line = 0; code = TooLong })
unfolding text_at
text_over text over = grind (arith, nat_tests)

-- reading the next line
pub lines_next : (n : ℕ) (state : TextState) (rest : List ℕ) (read : Result (TextState) TextCode) → 0 < length rest → after_line state (before_first is_line_feed rest) ≡ read
    → after_lines n state (lines_of rest) ≡ next_line n (λ after. after_lines (n + 1) after (lines_of (after_first is_line_feed rest))) read
unfolding after_lines
lines_next n state rest read some e = rw (lines_of-cons rest some, e) refl

-- the fault of a line is that of the text, where the lines before it were read
pub line_fails : (n : ℕ) (state : TextState) (rest : List ℕ) (code : TextCode) (read : Result Circuit TextError) → 0 < length rest
    → after_lines n state (lines_of rest) ≡ read → (code ≡ Line OutOfMemory) ⊎ (after_line state (before_first is_line_feed rest) ≡ Err code)
    → (code ≡ Line OutOfMemory) ⊎ (read ≡ Err (record { line = n + 1; code = code }))
line_fails n state rest code read some same (inl memory) = inl memory
line_fails n state rest code read some same (inr fails) = inr (sym same ∙ lines_next n state rest (Err code) some fails)

-- no line is left
pub lines_end : (n : ℕ) (state : TextState) (rest : List ℕ) → length rest ≡ 0 → after_lines n state (lines_of rest) ≡ finished n state
unfolding after_lines lines_of
lines_end n state [] none = refl
lines_end n state (b ∷ bs) none = grind (arith, nat_tests)

-- where lines that begin behind line n end
abbrev end_behind : ℕ → List (List ℕ) → Result Circuit TextError → ℕ
end_behind n lines (Ok net) = n + length lines
end_behind n lines (Err error) = error.line

end_next : (n : ℕ) (line : List ℕ) (lines : List (List ℕ)) → ((state : TextState) → n + 1 ≤ end_behind (n + 1) lines (after_lines (n + 1) state lines))
    → (read : Result (TextState) TextCode) → n + 1 ≤ end_behind n (line ∷ lines) (next_line n (λ after. after_lines (n + 1) after lines) read)
end_next n line lines low h4 = grind (arith, nat_tests)

end_low : (n : ℕ) (lines : List (List ℕ)) (state : TextState) → n ≤ end_behind n lines (after_lines n state lines)
unfolding after_lines
end_low n (line ∷ lines) state = grind (arith, nat_tests, end_next, (end_low (n + 1) lines))
end_low n [] state = grind (arith, nat_tests)

-- no line before the next is the last
pub line_reached : (n : ℕ) (state : TextState) (rest text : List ℕ) → 0 < length rest → n + length (lines_of rest) ≡ length (lines_of text)
    → (read : Result Circuit TextError) → after_lines n state (lines_of rest) ≡ read → n + 1 ≤ last_line text read
unfolding after_lines
line_reached n state rest text some counted read same =
    let low = end_next n (before_first is_line_feed rest) (lines_of (after_first is_line_feed rest)) (end_low (n + 1) (lines_of (after_first is_line_feed rest))) (after_line state (before_first is_line_feed rest)) in
    grind (arith, nat_tests, (lines_of-cons rest some), low)

-- a line is taken off the count
pub lines_counted : (rest text : List ℕ) (n : ℕ) → 0 < length rest → n + length (lines_of rest) ≡ length (lines_of text)
    → n + 1 + length (lines_of (after_first is_line_feed rest)) ≡ length (lines_of text)
lines_counted rest text n some counted = let cons = ap length (lines_of-cons rest some) in omega (arith, cons, counted)

-- what was read is given
pub gives_same : {X : Type 0} (result read : Result X TextError) → read ≡ result → GivesText result read
gives_same result read same = grind (arith, nat_tests)

-- the end of a text doesn't tell of memory
pub finished_reached : (text : List ℕ) (read : Result Circuit TextError) (n : ℕ) (state : TextState) → IfErr (finished n state) (IsReachedIn text read)
finished_reached text read n state = grind (arith, nat_tests)

pub ruleset reading_read_lines_steps = (rest_falls, lines_counted, lines_next, lines_end, gives_same, finished_reached)

-- a text may always be as long as one of the first form
pub limit_least : (text : List ℕ) → max_short_text ≤ text_limit text
unfolding text_limit
limit_least text = grind (arith, nat_tests)

-- a front of more bytes than a text of the first form may have tells it
pub limit_of_front : (k : ℕ) (text : List ℕ) → max_short_text < k → text_limit (take k text) ≡ text_limit text
unfolding text_limit
limit_of_front k text long = grind (arith, (take-take (max_short_text + 1) k text))

pub first_blank : (line : List ℕ) (lines : List (List ℕ)) → length (words_of line) ≡ 0 → first_words (line ∷ lines) ≡ first_words lines
first_blank line lines none = rw (eq-eqb (length (words_of line)) 0 none) refl

pub first_worded : (line : List ℕ) (lines : List (List ℕ)) → length (words_of line) ≢ 0 → first_words (line ∷ lines) ≡ words_of line
first_worded line lines some = rw (ne_eqb (length (words_of line)) 0 some) refl

pub no_words : (text : List ℕ) → length text ≡ 0 → first_words (lines_of text) ≡ []
unfolding lines_of
no_words [] none = refl
no_words (b ∷ bs) none = grind arith

-- two words are looked at
pub fourth_of : (words : List (List ℕ)) (word number : List ℕ) → slice_get words 0 ≡ Some word → slice_get words 1 ≡ Some number
    → (length words == 2 && bytes_eq word (codes "format") && is_four (number_word number)) ≡ states_fourth words
fourth_of words word number first second = grind (arith, nat_tests, ne_eqb)

pub not_fourth : (words : List (List ℕ)) → slice_get words 1 ≡ None → states_fourth words ≡ false
not_fourth words none = grind (arith, nat_tests)

pub no_fourth : (words : List (List ℕ)) → slice_get words 0 ≡ None → states_fourth words ≡ false
no_fourth words none = grind (arith, nat_tests)

pub ruleset fourth_steps = (fourth_of, not_fourth, no_fourth)
