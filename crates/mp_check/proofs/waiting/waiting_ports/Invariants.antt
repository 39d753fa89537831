use Rattle.mp_holding.specs.declared.sets.needs.Shape.TheVariants.{Any}
use Rattle.mp_check.specs.Waiting.{may_wait}
use Rattle.mp_check.proofs.NeedLemmas.{AreNeeds}
use Rattle.mp_check.proofs.waiting.waiting_ports.Given as goal

-- the needs of the ports so far
abbrev pub invariant-loop-number : goal.invariant-loop-number
invariant-loop-number l = AreNeeds Any (may_wait l.end.at.netlist.now) l.number l.needs.items
