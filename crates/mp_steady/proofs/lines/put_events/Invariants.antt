use Rattle.std.proofs.Common.{Ok, take}
use Rattle.std.specs.List.{flat_map}
use Rattle.mp_streams.specs.Outgoing.{Writes}
use Rattle.mp_records.specs.declared.ids.WireId.{WireId}
use Rattle.mp_steady.specs.SteadyLines.{events_line}
use Rattle.mp_steady.proofs.lines.put_events.Given as goal

-- the lines so far are written
abbrev pub invariant-loop-wire : goal.invariant-loop-wire
invariant-loop-wire g l = Writes {T = Unit {0}} (Ok tt) l.fn.out l.out (flat_map (λ (w : WireId). events_line l.of.set.of.netlist.now l.of.units w.0) (take l.wire-index l.of.set.wires.now))
