use Rattle.std.proofs.Common.{◌-◌, length}
use Rattle.mp_steady.specs.Reaching.{AreFollowed, AreReached, HaveEvents}
use Rattle.mp_steady.proofs.control.control.Given as goal

-- what the wires so far depend on is reached
abbrev pub invariant-loop-place : goal.invariant-loop-place
invariant-loop-place l =
    let n = l.of.netlist.now in
    record {
      reached : AreReached n l.reached.marks.items l.reached.order.items;
      events : HaveEvents n (length n.wires) l.reached.order.items;
      followed : AreFollowed n l.place l.reached.order.items;
    }

abbrev pub decreases-loop-place : goal.decreases-loop-place
decreases-loop-place l = length l.of.netlist.now.wires - l.place
