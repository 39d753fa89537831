use Rattle.std.proofs.Common.{◌≡◌, take}
use Rattle.mp_check.specs.CheckLines.{stands_since}
use Rattle.mp_check.proofs.lines.stands_since.Given as goal

-- that of the wires so far
abbrev pub invariant-loop-wait : goal.invariant-loop-wait
invariant-loop-wait l = l.latest ≡ stands_since l.end.at.netlist.now (take l.wait-index l.waits)
