-- When a text is refused, by its lines alone.
use Rattle.std.specs.Prelude.{◌≡◌, ◌⊎◌, ℕ, ◌+◌, ◌≤◌, List, [], ◌∷◌, ◌++◌, length, Ok, Err, codes}
use Rattle.mp_netlist.specs.Circuit.{Circuit, empty_circuit}
use Rattle.mp_text.specs.lexing.Lines.{lines_of}
use Rattle.mp_text.specs.declared.text_code.TextCode.TheVariants.{NoHorizon}
use Rattle.mp_text.specs.declared.text_error.TextError.{TextError}
use Rattle.mp_text.specs.Laws.{statements, format_by}
use Rattle.mp_text.specs.Sizes.{text_limit}
use Rattle.mp_text.specs.Texts.{text_at}

-- each text of the lines, if it is not too long, is read as this netlist
abbrev pub AreRead : List (List ℕ) → Circuit → Type 0
AreRead lines n = (text : List ℕ) → length text ≤ text_limit text → lines_of text ≡ lines → text_at text ≡ Ok n

-- each text of the lines, if it is not too long, is refused by this error
abbrev pub AreRefused : List (List ℕ) → TextError → Type 0
AreRefused lines error = (text : List ℕ) → length text ≤ text_limit text → lines_of text ≡ lines → text_at text ≡ Err error

-- the lines lack only a horizon: they are refused for it at their end, and with a line behind that states one they are read
pub record LackHorizon (lines : List (List ℕ)) : Type 0 where
  pub refused : AreRefused lines (record { line = length lines; code = NoHorizon })
  pub read : AreRead (lines ++ codes "horizon 1" ∷ []) (empty_circuit (format_by (statements lines)) 1)

-- the lines are refused at one of them: those before are read, or lack only a horizon, and whatever lines come behind are refused alike
pub record AreRefusedAt (lines : List (List ℕ)) (error : TextError) : Type 0 where
  pub front : List (List ℕ)
  pub line : List ℕ
  pub rest : List (List ℕ)
  pub parts : lines ≡ front ++ line ∷ rest
  pub behind : error.line ≡ length front + 1
  pub before : ((n : Circuit) × AreRead front n) ⊎ LackHorizon front
  pub alike : (others : List (List ℕ)) → AreRefused (front ++ line ∷ others) error

-- a text that is not too long is refused at one of its lines, or it lacks only a horizon
abbrev pub TextsAreRefusedByLines : Type 0
TextsAreRefusedByLines =
    (text : List ℕ) (error : TextError)
    → length text ≤ text_limit text → text_at text ≡ Err error → AreRefusedAt (lines_of text) error ⊎ LackHorizon (lines_of text)
