-- The question of a picture is read as it is written.
use Rattle.std.proofs.Common.{◌≡◌, ℕ, ◌+◌, ◌<◌, ◌≤◌, ◌^◌, Bool, true, false, List, [], ◌∷◌, ◌++◌, length, drop, All, Ok, Err, refl, sym, ap, ◌∙◌, arith, codes, decimal, bytes_eq, nat_le}
use Rattle.std.proofs.Math.Seq.{drop-append-add}
use Rattle.std.proofs.lemmas.Bool.{false_from_ne_true}
use Rattle.std.proofs.lemmas.Bool.Decides.{nat_tests}
use Rattle.std.proofs.lemmas.Slice.Eq.{bytes_eq-Decides}
use Rattle.mp_text.proofs.lemmas.lexing.DividedLemmas.{before_first-append, first_at}
use Rattle.mp_text.proofs.lemmas.lexing.ReadBackLemmas.{number_back}
use Rattle.mp_text.specs.declared.lexing.line_error.LineError.TheVariants.{BadNumber}
use Rattle.mp_text.specs.declared.question.Question.TheVariants.{Show}
use Rattle.mp_streams.specs.Numbers.{number_from, spelled_number}
use Rattle.mp_text.specs.lexing.WordLists.{number_word}
use Rattle.mp_text.specs.Limits.{max_columns}
use Rattle.mp_text.specs.PictureForms.{PictureForm}
use Rattle.mp_text.specs.PictureWords.{form_of, is_option, options_in, wires_in}
use Rattle.mp_text.specs.Questions.{picture_question}
use Rattle.mp_laws.specs.SaidPictures.{PicturesAreSaid, flag, options_for}

-- a word that is no number isn't the text of one
no_number : (n : ℕ) (word : List ℕ) → n < 2 ^ 64 → number_word word ≡ Err BadNumber → bytes_eq (decimal n) word ≡ false
no_number n word fits is =
    false_from_ne_true (bytes_eq (decimal n) word) (λ same.
    let clash : Ok n ≡ Err BadNumber = sym (number_back n fits) ∙ ap number_word ((bytes_eq-Decides (decimal n) word).0 same) ∙ is in
    cc)

module _ (c : ℕ) (some : 1 ≤ c) (few : c ≤ max_columns) where
  within : c < 2 ^ 64
  within = omega (arith, few)

  no_hex : bytes_eq (decimal c) (codes "--hex") ≡ false
  unfolding spelled_number number_from
  no_hex = no_number c (codes "--hex") within refl

  no_ascii : bytes_eq (decimal c) (codes "--ascii") ≡ false
  unfolding spelled_number number_from
  no_ascii = no_number c (codes "--ascii") within refl

  form_is : (is_hex is_ascii : Bool) → form_of (options_for (record { columns = c; is_hex = is_hex; is_ascii = is_ascii })) ≡ Ok (record { columns = c; is_hex = is_hex; is_ascii = is_ascii })
  form_is true true = grind (arith, nat_tests, no_hex, no_ascii, (number_back c within))
  form_is true false = grind (arith, nat_tests, no_hex, no_ascii, (number_back c within))
  form_is false true = grind (arith, nat_tests, no_hex, no_ascii, (number_back c within))
  form_is false false = grind (arith, nat_tests, no_hex, no_ascii, (number_back c within))

pub pictures_are_said : PicturesAreSaid
pictures_are_said from to names form begins ends none some few =
    rw (options, form_is form.columns some few form.is_hex form.is_ascii, number_back from begins, number_back to ends, wires) refl
  where
    behind : List (List ℕ)
    behind = decimal form.columns ∷ (flag form.is_hex (codes "--hex") ++ flag form.is_ascii (codes "--ascii"))

    wires : wires_in (names ++ options_for form) ≡ names
    wires = before_first-append is_option (codes "--columns") behind refl names none

    options : options_in (names ++ options_for form) ≡ options_for form
    options =
        let zero_behind : length names ≡ length names + 0 = omega arith in
        ap (λ n. drop n (names ++ options_for form)) (first_at is_option (codes "--columns") behind refl names none ∙ zero_behind)
        ∙ drop-append-add names (options_for form) 0
