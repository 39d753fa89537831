-- A line that is written is read as its words.
use Rattle.mp_text.proofs.Names.{◌≡◌, ◌∷◌, ◌++◌, ℕ, true, false, List, [], append_assoc, All, Ok, refl, arith, list_all, nat_tests, append-nil, All-head, All-tail, list_all-append, spaced, written_line, IsPlain, plain_allowed, All-passing, list_all-passing, lines_of, is_line_feed, is_allowed, line_words, words_of}
use Rattle.mp_text.proofs.lemmas.lexing.LineWordLemmas.{words_of-gap, words_of-last}
use Rattle.mp_text.proofs.lemmas.lexing.LineLemmas.{lines_of-line as lines_of-ended}

-- a word and a space in front of a line
pub words_of-cons : (w line : List ℕ) → IsPlain w → words_of (w ++ 32 ∷ line) ≡ w ∷ words_of line
words_of-cons w line plain = words_of-gap w 32 line plain refl

-- the words of a line as it is written
pub words_of-spaced : (first : List ℕ) (words : List (List ℕ)) → IsPlain first → All IsPlain words → words_of (first ++ spaced words) ≡ first ∷ words
words_of-spaced first [] plain all = grind (arith, nat_tests, append-nil, words_of-last)
words_of-spaced first (word ∷ words) plain all = grind (arith, nat_tests, words_of-cons, All-head, All-tail, (words_of-spaced word words (All-head IsPlain word words all) (All-tail IsPlain word words all)))

-- the bytes of such a line are allowed
pub allowed-spaced : (first : List ℕ) (words : List (List ℕ)) → IsPlain first → All IsPlain words → list_all is_allowed (first ++ spaced words) ≡ true
allowed-spaced first [] plain all = grind (arith, nat_tests, append-nil, list_all-passing, plain_allowed)
allowed-spaced first (word ∷ words) plain all = grind (arith, nat_tests, list_all-passing, plain_allowed, All-head, All-tail, list_all-append, (allowed-spaced word words (All-head IsPlain word words all) (All-tail IsPlain word words all)))

-- such a line is read as its words
pub line_words-spaced : (first : List ℕ) (words : List (List ℕ)) → IsPlain first → All IsPlain words → line_words (first ++ spaced words) ≡ Ok (first ∷ words)
line_words-spaced first words plain all = grind (arith, nat_tests, allowed-spaced, words_of-spaced)

-- a line in front of others
pub lines_of-line : (line rest : List ℕ) → list_all is_allowed line ≡ true → lines_of (line ++ 10 ∷ rest) ≡ line ∷ lines_of rest
lines_of-line line rest all = lines_of-ended line (All-passing is_allowed (λ b. is_line_feed b ≡ false) (λ b allowed. grind (arith, nat_tests)) line all) rest

-- a written line in front of others
pub lines_of-written : (first : List ℕ) (words : List (List ℕ)) (rest : List ℕ) → IsPlain first → All IsPlain words
    → lines_of (written_line first words ++ rest) ≡ (first ++ spaced words) ∷ lines_of rest
lines_of-written first words rest plain all = grind (arith, nat_tests, append_assoc, lines_of-line, allowed-spaced)
