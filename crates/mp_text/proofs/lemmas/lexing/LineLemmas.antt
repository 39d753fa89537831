-- Facts about lines.
use Rattle.mp_text.proofs.lemmas.lexing.Names.{◌≡◌, ◌+◌, ◌<◌, ◌≤◌, ◌∷◌, ◌++◌, ℕ, Bool, false, cond, List, [], length, length-drop, refl, arith, onto_first, before_first, after_first, position_or_len, nat_tests, is_line_feed, lines_of, All, length-append}
use Rattle.std.proofs.lemmas.Grind.{common_steps}
use Rattle.mp_text.proofs.lemmas.lexing.DividedLemmas.{before_first-append, after_first-append}

onto_line : (b : ℕ) (bs : List ℕ) (t : Bool) → is_line_feed b ≡ t → onto_first b (lines_of bs) ≡ (b ∷ before_first is_line_feed bs) ∷ lines_of (after_first is_line_feed bs)
    → cond t ([] ∷ lines_of bs) (onto_first b (lines_of bs)) ≡ before_first is_line_feed (b ∷ bs) ∷ lines_of (after_first is_line_feed (b ∷ bs))
onto_line b bs t e next = grind (arith, nat_tests)

onto_lines : (b : ℕ) (bs : List ℕ) → onto_first b (lines_of bs) ≡ (b ∷ before_first is_line_feed bs) ∷ lines_of (after_first is_line_feed bs)
unfolding lines_of
onto_lines b [] = refl
onto_lines b (c ∷ cs) = grind (arith, nat_tests, onto_line, (onto_lines c cs))

-- bytes are a first line and the lines behind it
pub lines_of-cons : (bytes : List ℕ) → 0 < length bytes → lines_of bytes ≡ before_first is_line_feed bytes ∷ lines_of (after_first is_line_feed bytes)
unfolding lines_of
lines_of-cons [] some = grind (arith, nat_tests)
lines_of-cons (b ∷ bs) some = grind (arith, nat_tests, onto_line, onto_lines)

pub ruleset line_steps = (common_steps, lines_of-cons)

-- a line that ends at its line feed, in front of others
pub lines_of-line : (line : List ℕ) → All (λ b. is_line_feed b ≡ false) line → (more : List ℕ) → lines_of (line ++ 10 ∷ more) ≡ line ∷ lines_of more
lines_of-line line none more = grind (arith, nat_tests, lines_of-cons, length-append, before_first-append, after_first-append)

-- a line is taken off the rest
pub rest_falls : (rest : List ℕ) → 0 < length rest → length (after_first is_line_feed rest) + 1 ≤ length rest
rest_falls rest some = omega (arith, length-drop (position_or_len is_line_feed rest + 1) rest)
