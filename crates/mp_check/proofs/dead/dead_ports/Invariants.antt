use Rattle.mp_holding.specs.declared.sets.needs.Shape.TheVariants.{Pairs}
use Rattle.mp_check.specs.Dead.{is_kept}
use Rattle.mp_check.proofs.NeedLemmas.{AreNeeds}
use Rattle.mp_check.proofs.dead.dead_ports.Given as goal

-- the needs of the ports so far
abbrev pub invariant-loop-number : goal.invariant-loop-number
invariant-loop-number l = AreNeeds Pairs (is_kept l.end.at.netlist.now) l.number l.needs.items
