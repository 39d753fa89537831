-- Facts about the words of a line, and about first places.
use Rattle.std.proofs.Common.{◌≡◌, ℕ, min, ◌-◌, List, [], ◌∷◌, length, take, drop, refl, ap, ◌∙◌, sym}
use Rattle.std.specs.Borrow.{Bor}
use Rattle.std.specs.Prelude.{Bool, not, cond, ◌+◌}
use Rattle.std.specs.List.{before_first, after_first, position_or_len}
use Rattle.std.proofs.lemmas.List.{drop-map, drop_min, take_min, take_rest}
use Rattle.std.proofs.lemmas.List.Elements.{All-take, All-drop}
use Rattle.mp_text.specs.Names.{texts}
use Rattle.mp_text.specs.Statements.{is_mark}
use Rattle.mp_text.proofs.lemmas.lexing.WordListLemmas.{texts-before_first, texts-after_first}

abbrev Word : Type 0
Word = Bor (List ℕ)

-- the first word that passes stands where its text does
pub place_texts : (p : List ℕ → Bool) (ws : List Word) → position_or_len p (texts ws) ≡ position_or_len (λ w. p w.now) ws
place_texts p [] = refl
place_texts p (w ∷ ws) = ap (λ n. cond (not (p w.now)) (1 + n) 0) (place_texts p ws)

-- the words before and behind a mark
module _ (mark : ℕ) (words part : List Word) where
  pub front_texts : part ≡ before_first (λ word. is_mark mark word.now) words → texts part ≡ before_first (is_mark mark) (texts words)
  front_texts same = ap texts same ∙ texts-before_first (is_mark mark) words

  pub back_texts : part ≡ after_first (λ word. is_mark mark word.now) words → texts part ≡ after_first (is_mark mark) (texts words)
  back_texts same = ap texts same ∙ texts-after_first (is_mark mark) words

pub ruleset divided_steps = (front_texts, back_texts, All-take, All-drop)

-- what is behind the first ones, of which there may be fewer
pub rest_behind : {X : Type 0} (xs : List X) (count at : ℕ) → at ≡ min count (length xs) → take (length xs - at) (drop at xs) ≡ drop count xs
rest_behind xs count at same = rw (take_rest xs at, same, drop_min count xs) refl

pub behind_texts : (words : List Word) (count at : ℕ) → at ≡ min count (length words) → texts (take (length words - at) (drop at words)) ≡ drop count (texts words)
behind_texts words count at same = ap texts (rest_behind words count at same) ∙ sym (drop-map (λ w. w.now) count words)

pub ruleset behind_steps = (behind_texts, All-take, All-drop)

pub ruleset part_steps = (rest_behind, take_min)
