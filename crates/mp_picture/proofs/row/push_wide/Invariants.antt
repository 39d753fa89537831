use Rattle.std.proofs.Common.{◌≡◌, ◌++◌, [], length}
use Rattle.std.specs.List.{prefix_len}
use Rattle.mp_picture.specs.Rows.{is_still, wide_from, wide_text}
use Rattle.mp_picture.proofs.row.push_wide.Given as goal

-- the rest of the columns is to come, and begins with an event
abbrev pub invariant-loop-cell : goal.invariant-loop-cell
invariant-loop-cell l = record {
  whole : l.row.items ++ wide_from l.layout [] l.rest ≡ l.fn.row.items ++ wide_text l.layout l.fn.cells;
  stopped : prefix_len is_still l.rest ≡ 0;
}

abbrev pub decreases-loop-cell : goal.decreases-loop-cell
decreases-loop-cell l = length l.rest
