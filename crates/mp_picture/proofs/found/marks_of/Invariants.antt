use Rattle.std.proofs.Common.{◌≡◌, map, take}
use Rattle.mp_picture.specs.Columns.{numbers}
use Rattle.mp_picture.specs.MarkedColumns.{mark_in}
use Rattle.mp_picture.proofs.found.marks_of.Given as goal

-- the marks so far
abbrev pub invariant-loop-column : goal.invariant-loop-column
invariant-loop-column l = l.marks.items ≡ map (mark_in l.marked l.place) (take l.column (numbers l.fn.columns))
