-- How levels are written.
use Rattle.std.specs.Prelude.{◌≢◌, ℕ, false, List, [], ◌++◌, All, codes, drop}
use Rattle.std.specs.Fmt.{digits}
use Rattle.mp_picture.specs.declared.level_text.LevelText.{LevelText}
use Rattle.mp_picture.specs.declared.mark.Charset.{Charset}
use Rattle.mp_picture.specs.declared.mark.Mark.{Mark}
use Rattle.mp_picture.specs.declared.numerals.Numerals.{Numerals}
use Rattle.mp_picture.specs.declared.numerals.Numerals.TheVariants.{Decimal, Hex}
use Rattle.mp_picture.specs.Marks.{mark_text}

abbrev pub base_of : Numerals → ℕ
base_of Decimal = 10
base_of Hex = 16

-- what stands before the digits
abbrev pub prefix_of : Numerals → List ℕ
prefix_of Decimal = []
prefix_of Hex = codes "0x"

-- the digits of a level, and what stands before them
abbrev pub level_text : Numerals → ℕ → List ℕ
level_text numerals level = prefix_of numerals ++ digits (base_of numerals) false level

-- ---- a text that was made

abbrev pub digits_shown : LevelText → List ℕ
digits_shown text = drop text.start text.digits

abbrev pub shown : LevelText → List ℕ
shown text = text.prefix.now ++ digits_shown text

-- ---- a law

-- no byte of a level's text is one of a mark
abbrev pub LevelsApart : Type 0
LevelsApart = (numerals : Numerals) (level : ℕ) (charset : Charset) (mark : Mark) → All (λ b. All (λ m. b ≢ m) (mark_text charset mark)) (level_text numerals level)
