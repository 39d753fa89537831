use Rattle.std.proofs.Common.{Ok, take}
use Rattle.std.specs.List.{flat_map}
use Rattle.mp_streams.specs.Outgoing.{Writes}
use Rattle.mp_exports.specs.verilog.Verilog.{change_line}
use Rattle.mp_exports.proofs.verilog.bench.ChangeLinesText.put_to.Given as goal

-- the lines of the changes so far are written
abbrev pub invariant-loop-time : goal.invariant-loop-time
invariant-loop-time g l = Writes {T = Unit {0}} (Ok tt) l.fn.out l.out (flat_map (change_line l.self.wire.now) (take l.time-index l.self.changes.now))
