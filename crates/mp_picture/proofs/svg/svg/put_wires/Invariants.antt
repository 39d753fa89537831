use Rattle.std.proofs.Common.{Ok, ℕ, take}
use Rattle.std.specs.List.{flat_map, enumerate_from}
use Rattle.mp_streams.specs.WriteErrors.{Writes}
use Rattle.mp_records.specs.declared.ids.WireId.{WireId}
use Rattle.mp_picture.specs.svg.Svg.{wire_row}
use Rattle.mp_picture.proofs.svg.svg.put_wires.Given as goal

-- the rows so far are written
abbrev pub invariant-loop-row : goal.invariant-loop-row
invariant-loop-row g l =
    Writes {T = Unit {0}} (Ok tt) l.fn.out l.out
    (flat_map (λ (row : ℕ × WireId). wire_row l.picture.netlist.now l.frame row.0 row.1) (take l.row (enumerate_from 0 l.picture.wires.now)))
