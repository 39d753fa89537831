use Rattle.std.proofs.Common.{◌≡◌, ◌+◌, length, take}
use Rattle.mp_kernel.specs.events.Fanouts.{rows_by, rows_of, ArePlaces}
use Rattle.mp_kernel.proofs.events.fanout.Fanout.from_rows.Given as goal

-- the rows so far
abbrev pub invariant-loop-row : goal.invariant-loop-row
invariant-loop-row l = record {
  places : ArePlaces l.places.items (length l.list.items);
  count : length l.heads.items + 1 ≡ length l.places.items;
  joined : rows_by l.heads.items (rows_of l.places.items l.list.items) ≡ take l.row-index l.rows;
}
