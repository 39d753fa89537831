use Rattle.std.proofs.Common.{Ok, take}
use Rattle.std.specs.List.{flat_map}
use Rattle.mp_streams.specs.Outgoing.{Writes}
use Rattle.mp_picture.specs.Graphs.{edge}
use Rattle.mp_picture.proofs.edges.put_edges.Given as goal

-- the reads so far are written
abbrev pub invariant-loop-reader : goal.invariant-loop-reader
invariant-loop-reader g l = Writes {T = Unit {0}} (Ok tt) l.fn.out l.out (flat_map (edge l.netlist l.wire.0 l.driver) (take l.reader-index l.readers))
