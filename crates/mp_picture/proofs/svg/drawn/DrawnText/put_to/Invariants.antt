use Rattle.std.proofs.Common.{Ok, length, take}
use Rattle.std.specs.List.{flat_map, range_with_len}
use Rattle.mp_streams.specs.Outgoing.{Writes}
use Rattle.mp_picture.specs.svg.Columns.{column_text}
use Rattle.mp_picture.proofs.svg.drawn.DrawnText.put_to.Given as goal

-- the columns so far are written
abbrev pub invariant-loop-column : goal.invariant-loop-column
invariant-loop-column g l =
    Writes {T = Unit {0}} (Ok tt) l.fn.out l.out (flat_map (column_text l.self.lane l.self.cells.now l.self.drawing) (take l.column (range_with_len 0 (length l.self.cells.now))))
