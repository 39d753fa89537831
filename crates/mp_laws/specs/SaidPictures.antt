-- The question of a picture, as it is written.
use Rattle.std.specs.Prelude.{◌≡◌, ℕ, ◌<◌, ◌≤◌, ◌^◌, Bool, false, List, [], ◌∷◌, ◌++◌, All, Ok, codes, if◌then◌else◌}
use Rattle.std.specs.Fmt.{decimal}
use Rattle.mp_text.specs.declared.question.Question.TheVariants.{Show}
use Rattle.mp_text.specs.Limits.{max_columns}
use Rattle.mp_text.specs.PictureForms.{PictureForm}
use Rattle.mp_text.specs.PictureWords.{is_option}
use Rattle.mp_text.specs.Questions.{picture_question}

-- an option that stands there, or doesn't
abbrev pub flag : Bool → List ℕ → List (List ℕ)
flag is_there option = if is_there then option ∷ [] else []

-- the options for a form
abbrev pub options_for : PictureForm → List (List ℕ)
options_for form = codes "--columns" ∷ decimal form.columns ∷ (flag form.is_hex (codes "--hex") ++ flag form.is_ascii (codes "--ascii"))

-- two times, then names that don't begin as options do, then the options for a form of 1 to 10,000 columns: so a picture in this form is asked for
abbrev pub PicturesAreSaid : Type 0
PicturesAreSaid =
    (from to : ℕ) (names : List (List ℕ)) (form : PictureForm)
    → from < 2 ^ 64 → to < 2 ^ 64 → All (λ name. is_option name ≡ false) names → 1 ≤ form.columns → form.columns ≤ max_columns
    → picture_question (decimal from) (decimal to) (names ++ options_for form) ≡ Ok (Show from to names form)
