use Rattle.std.proofs.Common.{Ok, take}
use Rattle.std.specs.List.{flat_map}
use Rattle.mp_streams.specs.WriteErrors.{Writes}
use Rattle.mp_picture.specs.Diagrams.{wire_line}
use Rattle.mp_picture.proofs.diagram.put_wires.Given as goal

-- the rows so far are written
abbrev pub invariant-loop-wire : goal.invariant-loop-wire
invariant-loop-wire g l = Writes {T = Unit {0}} (Ok tt) l.fn.out l.out (flat_map (wire_line l.picture.netlist.now l.layout) (take l.wire-index l.picture.wires.now))
