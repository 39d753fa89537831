use Rattle.mp_steady.specs.Reaching.{AreReached, HaveEvents}
use Rattle.mp_steady.proofs.control.Reached.events.Given as goal

-- those of the numbers so far
abbrev pub invariant-loop-number : goal.invariant-loop-number
invariant-loop-number l = record {
  reached : AreReached l.netlist l.reached.marks.items l.reached.order.items;
  events : HaveEvents l.netlist l.number l.reached.order.items;
}
