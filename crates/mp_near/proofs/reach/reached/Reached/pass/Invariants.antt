use Rattle.std.proofs.Common.{◌≡◌, ◌≤◌}
use Rattle.mp_near.specs.reach.Reach.{IsClosedBetween, IsReach}
use Rattle.mp_near.proofs.reach.reached.Reached.pass.Given as goal

-- each marked wire since the last at which a module was marked has marked readers alone
abbrev pub invariant-loop-w : goal.invariant-loop-w
invariant-loop-w l = record {
  reach : IsReach l.old l.new l.self.modules.items l.self.wires.items;
  few : l.passed.left ≤ l.most;
  low : l.passed.last ≤ l.w;
  end : l.w ≤ l.to;
  closed : IsClosedBetween l.new l.self.modules.items l.self.wires.items l.passed.last l.w;
  none : l.passed.left ≡ l.most → (l.passed.last ≡ l.from) × (l.self ≡ l.fn.self);
}
