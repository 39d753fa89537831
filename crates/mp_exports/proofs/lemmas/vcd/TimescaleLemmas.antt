-- The timescale of a word.
use Rattle.std.proofs.Common.{◌≡◌, ◌≢◌, ℕ, List, Option, Some, None}
use Rattle.std.specs.Option.{option_or}
use Rattle.std.specs.Prelude.{MatchOption}
use Rattle.mp_exports.specs.declared.vcd.timescale.TimeNumber.{TimeNumber}
use Rattle.mp_exports.specs.declared.vcd.timescale.TimeNumber.TheVariants.{One, Ten, Hundred}
use Rattle.mp_exports.specs.declared.vcd.timescale.TimeUnit.{TimeUnit}
use Rattle.mp_exports.specs.declared.vcd.timescale.Timescale.{Timescale}
use Rattle.mp_exports.specs.vcd.Timescales.{numbered_word, timescale_word, IsNotNumbered, IsNoTimescale}

-- the timescale with this number of a word, where it has one
abbrev pub OfNumber : TimeNumber → List ℕ → Option Timescale → Type 0
OfNumber number word found = MatchOption found (IsNotNumbered number word) (λ scale. timescale_word scale ≡ word)

module _ (word : List ℕ) where
  of_none : IsNotNumbered One word → IsNotNumbered Ten word → IsNotNumbered Hundred word → (number : TimeNumber) (unit : TimeUnit) → numbered_word number unit ≢ word
  of_none first second third One unit = first unit
  of_none first second third Ten unit = second unit
  of_none first second third Hundred unit = third unit

  -- the first that is found
  pub of_any : (one ten hundred : Option Timescale) → OfNumber One word one → OfNumber Ten word ten → OfNumber Hundred word hundred
      → MatchOption (option_or (option_or one ten) hundred) (IsNoTimescale word) (λ scale. timescale_word scale ≡ word)
  of_any (Some scale) ten hundred first second third = first
  of_any None (Some scale) hundred first second third = second
  of_any None None (Some scale) first second third = third
  of_any None None None first second third = λ scale. of_none first second third scale.number scale.unit
