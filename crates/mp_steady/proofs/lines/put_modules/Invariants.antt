use Rattle.std.proofs.Common.{Ok, take}
use Rattle.std.specs.List.{flat_map}
use Rattle.mp_streams.specs.Outgoing.{Writes}
use Rattle.mp_steady.specs.SteadyLines.{module_line}
use Rattle.mp_steady.proofs.lines.put_modules.Given as goal

-- the lines so far are written
abbrev pub invariant-loop-share : goal.invariant-loop-share
invariant-loop-share g l = Writes {T = Unit {0}} (Ok tt) l.fn.out l.out (flat_map (module_line l.netlist) (take l.share-index l.shares))
