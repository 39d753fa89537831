use Rattle.std.proofs.Common.{◌≡◌, take}
use Rattle.std.specs.List.{flat_map}
use Rattle.mp_picture.specs.svg.MarkRows.{rows_at}
use Rattle.mp_picture.proofs.svg.mark_rows.mark_rows.Given as goal

-- the rows of the places so far
abbrev pub invariant-loop-place : goal.invariant-loop-place
invariant-loop-place l = l.rows.items ≡ flat_map (rows_at l.fn.columns l.found) (take l.place-index l.places)
