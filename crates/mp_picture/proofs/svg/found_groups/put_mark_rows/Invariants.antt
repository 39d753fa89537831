use Rattle.std.proofs.Common.{Ok, ℕ, take}
use Rattle.std.specs.List.{flat_map, enumerate_from}
use Rattle.mp_streams.specs.Outgoing.{Writes}
use Rattle.mp_picture.specs.declared.svg.mark_rows.MarkRow.{MarkRow}
use Rattle.mp_picture.specs.svg.Frames.{lane}
use Rattle.mp_picture.specs.svg.FoundGroups.{mark_group}
use Rattle.mp_picture.proofs.svg.found_groups.put_mark_rows.Given as goal

-- the rows so far are written
abbrev pub invariant-loop-index : goal.invariant-loop-index
invariant-loop-index g l =
    Writes {T = Unit {0}} (Ok tt) l.fn.out l.out
    (flat_map (λ (row : ℕ × MarkRow). mark_group l.netlist (lane l.frame row.0) row.1) (take l.index (enumerate_from l.first l.rows)))
