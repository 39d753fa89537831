use Rattle.std.proofs.Common.{◌≡◌, [], replicate}
use Rattle.mp_picture.proofs.readers.empty_rows.Given as goal

-- the rows so far
abbrev pub invariant-loop-row : goal.invariant-loop-row
invariant-loop-row l = l.rows.items ≡ replicate l._row []
