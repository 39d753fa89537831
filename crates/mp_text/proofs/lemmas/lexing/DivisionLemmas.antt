-- The lines of an input up to a division.
use Rattle.mp_text.proofs.lemmas.lexing.Names.{◌≡◌, ◌+◌, ◌-◌, ◌<◌, ◌≤◌, ◌∷◌, ◌++◌, ℕ, true, false, nat_lt, List, [], length, take, drop, All, refl, sym, ap, subst, ◌∙◌, append_assoc, length-drop, arith, before_first, after_first, position_or_len, cases_lt, eqb-true, lt-ltb, le-ltb, or_left, or_right, drop_all, take_all, take_more, take-append-drop, length-take-le, All-nil, All-push, fails_before_first, passes_at_first, take-add, get_or-take, take-length, list_any-append, list_any_none, is_division, first_part, later_parts, are_divided, is_line_feed, lines_of, take_rest, map_push, false_from_ne_true, get_or_default, list_any-from_Any, slice_split_none, slice_split_first, parts_of}
use Rattle.mp_text.proofs.lemmas.lexing.DividedLemmas.{before_first-append, after_first-append, before_first-none, after_first-none}
use Rattle.mp_text.proofs.lemmas.lexing.LineLemmas.{lines_of-cons, lines_of-line}

no_lines : lines_of [] ≡ []
unfolding lines_of
no_lines = refl

-- bytes that end where a line ends
abbrev pub AreWhole : List ℕ → Type 0
AreWhole bytes = (more : List ℕ) → lines_of (bytes ++ more) ≡ lines_of bytes ++ lines_of more

pub none_whole : AreWhole []
none_whole more = ap (λ lines. lines ++ lines_of more) (sym no_lines)

module _ (line : List ℕ) (none : All (λ b. is_line_feed b ≡ false) line) where
  lines_of-more : (front : List ℕ) → AreWhole front → lines_of (front ++ (line ++ 10 ∷ [])) ≡ lines_of front ++ line ∷ []
  lines_of-more front whole = whole (line ++ 10 ∷ []) ∙ ap (λ l. lines_of front ++ l) (lines_of-line line none [] ∙ ap (λ l. line ∷ l) no_lines)

  line_whole : (front : List ℕ) → AreWhole front → AreWhole (front ++ (line ++ 10 ∷ []))
  line_whole front whole more = grind (arith, append_assoc, lines_of-line, lines_of-more)

-- none of the lines divides an input
abbrev pub Undivided : List (List ℕ) → Type 0
Undivided lines = All (λ line. is_division line ≡ false) lines

pub none_undivided : Undivided (lines_of [])
none_undivided = subst Undivided (sym no_lines) (All-nil (λ line. is_division line ≡ false))

module _ (input : List ℕ) (at : ℕ) where
  abbrev rest : List ℕ
  rest = drop at input

  abbrev line : List ℕ
  line = before_first is_line_feed rest

  abbrev others : List ℕ
  others = after_first is_line_feed rest

  abbrev feed : ℕ
  feed = position_or_len is_line_feed rest

  -- where the line behind the first ones ends
  pub record IsNext (next : ℕ) : Type 0 where
    pub within : next ≤ length input
    pub lines : lines_of (take next input) ≡ lines_of (take at input) ++ line ∷ []
    pub whole : next < length input → AreWhole (take next input)

  module _ (inside : at < length input) (whole : AreWhole (take at input)) where
    long : length rest ≡ length input - at
    long = length-drop at input

    by_feed : feed < length rest → IsNext (length input - length others)
    by_feed less =
        let no_feed : All (λ b. is_line_feed b ≡ false) line = (λ k d within. grind (arith, length-take-le, get_or-take, fails_before_first)) in
        let chunk : take (feed + 1) rest ≡ line ++ 10 ∷ [] = take_more rest feed 0 less ∙ ap (λ b. line ++ b ∷ []) (eqb-true _ _ (passes_at_first is_line_feed rest 0 less)) in
        let bytes : take (at + (feed + 1)) input ≡ take at input ++ (line ++ 10 ∷ []) = take-add at (feed + 1) input ∙ ap (λ c. take at input ++ c) chunk in
        grind (arith, long, length-drop, lines_of-more, no_feed, line_whole)

    all_lines : lines_of input ≡ lines_of (take at input) ++ line ∷ lines_of others
    all_lines = ap lines_of (sym (take-append-drop at input)) ∙ whole rest ∙ ap (λ l. lines_of (take at input) ++ l) (lines_of-cons rest (omega (arith, long, inside)))

    -- the last line, without a line feed
    by_end : length rest ≤ feed → IsNext (length input - length others)
    by_end more =
        let none : others ≡ [] = drop_all (feed + 1) rest (omega arith) in
        let next : length input - length others ≡ length input = omega (arith, ap length none) in
        grind (arith, next, none, (take-length input), all_lines, no_lines)

    pub next_line_in : IsNext (length input - length others)
    next_line_in = grind (arith, cases_lt, by_feed, by_end)

    module _ (none : Undivided (lines_of (take at input))) where
      pub undivided_next : is_division line ≡ false → Undivided (lines_of (take (length input - length others) input))
      undivided_next other = subst Undivided (sym next_line_in.lines) (All-push (λ line. is_division line ≡ false) (lines_of (take at input)) line none other)

      -- the line is the first that divides the input
      module _ (here : is_division line ≡ true) where
        pub front_here : lines_of (take at input) ≡ first_part (lines_of input)
        front_here = sym (ap first_part all_lines ∙ before_first-append is_division line (lines_of others) here (lines_of (take at input)) none)

        pub back_here : lines_of others ≡ later_parts (lines_of input)
        back_here = sym (ap later_parts all_lines ∙ after_first-append is_division line (lines_of others) here (lines_of (take at input)) none)

        pub divided_here : nat_lt (length (take at input)) (length input) ≡ are_divided (lines_of input)
        divided_here = grind (arith, length-take-le, or_right, or_left, lt-ltb, all_lines, list_any-append)

module _ (input : List ℕ) (at : ℕ) (over : length input ≤ at) (before : Undivided (lines_of (take at input))) where
  none : Undivided (lines_of input)
  none = subst (λ bytes. Undivided (lines_of bytes)) (take_all at input over) before

  -- all lines are of the first part
  pub front_end : lines_of input ≡ first_part (lines_of input)
  front_end = sym (before_first-none is_division (lines_of input) none)

  pub back_end : lines_of [] ≡ later_parts (lines_of input)
  back_end = no_lines ∙ sym (after_first-none is_division (lines_of input) none)

  pub divided_end : nat_lt (length input) (length input) ≡ are_divided (lines_of input)
  divided_end = le-ltb (length input) (length input) (omega arith) ∙ sym (list_any_none is_division (lines_of input) none)

pub ruleset division_steps = (none_whole, none_undivided, take_rest, divided_here)

-- the first part, and those behind the first division
pub parts_of-split : (lines : List (List ℕ)) → are_divided lines ≡ true → parts_of lines ≡ first_part lines ∷ parts_of (later_parts lines)
parts_of-split lines divided = grind (arith, slice_split_first, cases_lt, list_any_none, fails_before_first)

-- without a division there is one part
pub parts_of-one : (lines : List (List ℕ)) → are_divided lines ≡ false → parts_of lines ≡ first_part lines ∷ []
parts_of-one lines undivided = grind (arith, false_from_ne_true, list_any-from_Any, get_or_default, slice_split_none, before_first-none)

-- by which the parts of an input are taken one by one
pub ruleset part_steps = (parts_of-split, parts_of-one, lt-ltb, le-ltb, append_assoc, map_push)
