use Rattle.std.proofs.Common.{◌≡◌, ◌≤◌, take}
use Rattle.mp_near.specs.reach.Marks.{AreGrown}
use Rattle.mp_near.specs.reach.Reach.{IsReach}
use Rattle.mp_near.proofs.lemmas.reach.ReachLemmas.{AreMarkedIn}
use Rattle.mp_near.proofs.reach.reached.Reached.visit.Given as goal

-- of the modules so far those that read the wire are marked
abbrev pub invariant-loop-m : goal.invariant-loop-m
invariant-loop-m l = record {
  reach : IsReach l.old l.new l.self.modules.items l.self.wires.items;
  wires : AreGrown l.fn.self.wires.items l.self.wires.items;
  few : l.left ≤ l.most;
  readers : AreMarkedIn l.new l.self.modules.items l.fn.wire.0 (take l.m-index l.row);
  same : l.left ≡ l.most → l.self ≡ l.fn.self;
}
