use Rattle.std.proofs.Common.{Ok, bytes_eq, flat_map, take}
use Rattle.mp_streams.specs.Outgoing.{Writes}
use Rattle.mp_questions.specs.Once.{firsts}
use Rattle.mp_questions.specs.timing.Measures.{named_measure}
use Rattle.mp_questions.proofs.timing.wire_measures.put_wire_measures.Given as goal

-- the lines of the names so far are written
abbrev pub invariant-loop-place : goal.invariant-loop-place
invariant-loop-place g l = Writes {T = Unit {0}} (Ok tt) l.fn.out l.out (flat_map (named_measure l.netlist l.units.from l.units.to) (firsts bytes_eq (take l.place l.names)))
