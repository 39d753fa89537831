use Rattle.std.proofs.Common.{Ok, take}
use Rattle.std.specs.List.{flat_map}
use Rattle.mp_streams.specs.Outgoing.{Writes}
use Rattle.mp_check.specs.CheckLines.{next_text}
use Rattle.mp_check.proofs.lines.put_others.Given as goal

-- the others so far are written
abbrev pub invariant-loop-wait : goal.invariant-loop-wait
invariant-loop-wait g l = Writes {T = Unit {0}} (Ok tt) l.fn.out l.out (flat_map (next_text l.netlist) (take l.wait-index l.others))
