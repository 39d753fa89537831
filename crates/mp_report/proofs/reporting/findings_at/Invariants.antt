use Rattle.mp_report.proofs.Names.{◌≡◌, map, take, finding_at}
use Rattle.mp_report.proofs.reporting.findings_at.Given as goal

-- the findings so far
abbrev pub invariant-loop-time : goal.invariant-loop-time
invariant-loop-time l = l.list.items ≡ map (finding_at l.place) (take l.time-index l.time-items)
