use Rattle.std.proofs.Common.{Ok, take, length}
use Rattle.std.specs.List.{flat_map, range_with_len}
use Rattle.mp_streams.specs.Outgoing.{Writes}
use Rattle.mp_check.specs.Notes.{wire_note}
use Rattle.mp_check.proofs.notes.put_wire_notes.Given as goal

-- the notes on the wires so far are written
abbrev pub invariant-loop-number : goal.invariant-loop-number
invariant-loop-number g l = Writes {T = Unit {0}} (Ok tt) l.fn.out l.out (flat_map (wire_note l.end.at.netlist.now) (take l.number (range_with_len 0 (length l.end.at.netlist.now.wires))))
