-- The words behind the times of a picture, as texts.
use Rattle.mp_text.proofs.Names.{◌≡◌, ◌∙◌, ap, ℕ, List, Bor, Option, bytes_eq, drop, before_first, position_or_len, texts, length-map, All-take}
use Rattle.std.specs.Prelude.{position}
use Rattle.mp_text.proofs.lemmas.lexing.WordListLemmas.{position-texts, texts-before_first, texts-from_first}
use Rattle.mp_text.specs.PictureWords.{is_option, option_place, options_in, wires_in}

abbrev Word : Type 0
Word = Bor (List ℕ)

module _ (words part : List Word) where
  pub wires_texts : part ≡ before_first (λ word. is_option word.now) words → texts part ≡ wires_in (texts words)
  wires_texts same = ap texts same ∙ texts-before_first is_option words

  pub options_texts : part ≡ drop (position_or_len (λ word. is_option word.now) words) words → texts part ≡ options_in (texts words)
  options_texts same = ap texts same ∙ texts-from_first is_option words

pub ruleset parted_steps = (wires_texts, options_texts, All-take)

pub place_in_texts : (option : List ℕ) (words : List Word) (place : Option ℕ) → place ≡ position (λ word. bytes_eq word.now option) words → place ≡ option_place option (texts words)
place_in_texts option words place same = same ∙ position-texts (λ word. bytes_eq word option) words

pub ruleset options_steps = (length-map)
