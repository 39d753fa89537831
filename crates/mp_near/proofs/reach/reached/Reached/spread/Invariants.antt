use Rattle.mp_near.specs.reach.Reach.{IsReach}
use Rattle.mp_near.proofs.reach.reached.Reached.spread.Given as goal

-- what is marked so far
abbrev pub invariant-rounds : goal.invariant-rounds
invariant-rounds l = IsReach l.old l.new l.self.modules.items l.self.wires.items
