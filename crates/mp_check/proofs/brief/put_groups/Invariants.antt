use Rattle.std.proofs.Common.{Ok, flat_map, take}
use Rattle.mp_streams.specs.Outgoing.{Writes}
use Rattle.mp_check.specs.Briefs.{group_line}
use Rattle.mp_check.proofs.brief.put_groups.Given as goal

-- the lines so far are written
abbrev pub invariant-loop-group : goal.invariant-loop-group
invariant-loop-group g l = Writes {T = Unit {0}} (Ok tt) l.fn.out l.out (flat_map (group_line l.netlist) (take l.group-index l.groups))
