use Rattle.mp_report.proofs.Names.{Ok, take, finding_lines}
use Rattle.mp_streams.specs.Outgoing.{Writes}
use Rattle.mp_report.proofs.lines.put_report.Given as goal

-- the lines so far are written
abbrev pub invariant-loop-finding : goal.invariant-loop-finding
invariant-loop-finding g l = Writes {T = Unit {0}} (Ok tt) l.fn.out l.out (finding_lines l.netlist (take l.finding-index l.findings))
