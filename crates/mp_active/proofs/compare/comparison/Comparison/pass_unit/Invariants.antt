use Rattle.std.proofs.Common.{◌≡◌, length, take}
use Rattle.mp_kernel.specs.timers.TimerWheels.{coming}
use Rattle.mp_active.proofs.lemmas.compare.UnitLemmas.{IsPassing}
use Rattle.mp_active.proofs.lemmas.compare.SetLemmas.{AreSome}
use Rattle.mp_active.proofs.compare.comparison.Comparison.pass_unit.Given as goal

abbrev pub invariant-loop-place : goal.invariant-loop-place
invariant-loop-place l = record {
  passing : IsPassing l.run l.time l.place l.fn.self l.self;
  some : AreSome l.run l.time (take l.place (coming l.fn.self.timers)) l.fn.self l.fn.set l.set;
  end : l.place-end ≡ length (coming l.fn.self.timers);
}
