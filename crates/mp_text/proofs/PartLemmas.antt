-- Facts about the parts of a batch's words.
use Rattle.mp_text.proofs.Names.{◌≡◌, ◌∷◌, take_more, map-append, ℕ, Bool, List, [], map, All, IsAscii, Bor, refl, sym, ap, subst, ◌∙◌, byte, slice_split, texts, AreAscii, is_mark, All-slice_split, All-unmap, part_texts, arith, nat_tests, map-map, take_all, before_first, after_first, texts-before_first, texts-after_first, All-take, All-drop}
use Rattle.mp_text.proofs.GivenLemmas.{ascii_at}

-- a word that divides parts, where it lies in memory
abbrev pub divides : Bor (List ℕ) → Bool
divides word = is_mark (byte ";") word.now

abbrev Word : Type 0
Word = Bor (List ℕ)

-- parts as lists of texts
abbrev pub texts_each : List (List Word) → List (List (List ℕ))
texts_each parts = map texts parts

-- the texts of the parts are the parts of the texts
pub texts_of_parts : (words : List Word) → texts_each (slice_split divides words) ≡ slice_split (is_mark (byte ";")) (texts words)
texts_of_parts [] = refl
texts_of_parts (word ∷ words) = grind (arith, nat_tests, (texts_of_parts words))

-- the parts that words were split into, and what holds of them
module _ (words : List Word) (parts : List (Bor (List Word))) (split : map (λ part. part.now) parts ≡ slice_split divides words) where
  pub parts_texts : part_texts parts ≡ slice_split (is_mark (byte ";")) (texts words)
  parts_texts = sym (map-map texts (λ part. part.now) parts) ∙ ap texts_each split ∙ texts_of_parts words

  pub parts_ascii : AreAscii words → All (λ part. AreAscii part.now) parts
  parts_ascii all = All-unmap AreAscii (λ part. part.now) parts (subst (All AreAscii) (sym split) (All-slice_split (λ word. IsAscii word.now) divides words all))

pub ruleset wire_names_steps = (take_more, map-append, ascii_at, take_all)

-- the words before and behind a mark
module _ (mark : ℕ) (words part : List Word) where
  pub front_texts : part ≡ before_first (λ word. is_mark mark word.now) words → texts part ≡ before_first (is_mark mark) (texts words)
  front_texts same = ap texts same ∙ texts-before_first (is_mark mark) words

  pub back_texts : part ≡ after_first (λ word. is_mark mark word.now) words → texts part ≡ after_first (is_mark mark) (texts words)
  back_texts same = ap texts same ∙ texts-after_first (is_mark mark) words

pub ruleset divided_steps = (front_texts, back_texts, All-take, All-drop)
