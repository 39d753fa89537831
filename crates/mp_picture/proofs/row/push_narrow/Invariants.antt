use Rattle.std.proofs.Common.{◌≡◌, ◌++◌, take}
use Rattle.mp_picture.specs.Rows.{narrow_text}
use Rattle.mp_picture.proofs.row.push_narrow.Given as goal

-- the marks so far
abbrev pub invariant-loop-cell : goal.invariant-loop-cell
invariant-loop-cell l = l.row.items ≡ l.fn.row.items ++ narrow_text l.charset l.units (take l.cell-index l.cells)
