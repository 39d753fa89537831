-- What stands in a column of a wire's row.
use Rattle.std.specs.Prelude.{ℕ, ◌==◌, List, [], ◌∷◌, codes, if◌then◌else◌}
use Rattle.mp_picture.specs.declared.cell.ColumnCell.{ColumnCell}
use Rattle.mp_picture.specs.declared.cell.ColumnEvents.{ColumnEvents}
use Rattle.mp_picture.specs.declared.cell.ColumnEvents.TheVariants.{None, One, More}
use Rattle.mp_picture.specs.declared.mark.Charset.{Charset}
use Rattle.mp_picture.specs.declared.mark.Charset.TheVariants.{Unicode, Ascii}
use Rattle.mp_picture.specs.declared.mark.Mark.{Mark}
use Rattle.mp_picture.specs.declared.mark.Mark.TheVariants.{Low, High, Rise, Fall, Busy, Flat, Cross}

abbrev pub level_mark : ℕ → Mark
level_mark level = if level == 0 then Low else High

-- the mark of a wire of width 1 by its events, the units of a column and its level at the column's end
abbrev pub events_mark : ColumnEvents → ℕ → ℕ → Mark
events_mark None units level = level_mark level
events_mark One units level = if units == 1 then level_mark level else if level == 0 then Fall else Rise
events_mark More units level = Busy

abbrev pub bit_mark : ℕ → ColumnCell → Mark
bit_mark units cell = events_mark cell.events units cell.level

-- the characters U+2581, U+2594, U+2571, U+2572, U+2592, U+2550 and U+2573 in UTF-8
abbrev pub unicode_text : Mark → List ℕ
unicode_text Low = 226 ∷ 150 ∷ 129 ∷ []
unicode_text High = 226 ∷ 150 ∷ 148 ∷ []
unicode_text Rise = 226 ∷ 149 ∷ 177 ∷ []
unicode_text Fall = 226 ∷ 149 ∷ 178 ∷ []
unicode_text Busy = 226 ∷ 150 ∷ 146 ∷ []
unicode_text Flat = 226 ∷ 149 ∷ 144 ∷ []
unicode_text Cross = 226 ∷ 149 ∷ 179 ∷ []

abbrev pub ascii_text : Mark → List ℕ
ascii_text Low = codes "_"
ascii_text High = codes "-"
ascii_text Rise = codes "/"
ascii_text Fall = 92 ∷ []
ascii_text Busy = codes "#"
ascii_text Flat = codes "="
ascii_text Cross = codes "X"

abbrev pub mark_text : Charset → Mark → List ℕ
mark_text Unicode mark = unicode_text mark
mark_text Ascii mark = ascii_text mark
