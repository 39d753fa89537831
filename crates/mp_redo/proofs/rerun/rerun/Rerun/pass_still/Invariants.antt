use Rattle.std.proofs.Common.{◌≡◌, ◌-◌, ◌≤◌}
use Rattle.mp_redo.specs.rerun.Windows.{IsUnderWay}
use Rattle.mp_redo.proofs.rerun.rerun.Rerun.pass_still.Given as goal

-- the units before are over
abbrev pub invariant-loop-time : goal.invariant-loop-time
invariant-loop-time l = record {
  later : l.from ≤ l.time;
  same : l.self.window_end ≡ l.end;
  within : l.time ≤ l.end;
  before : IsUnderWay l.change.old.now l.change.new.now l.change.run.now (l.time - 1) l.self;
}

abbrev pub decreases-loop-time : goal.decreases-loop-time
decreases-loop-time l = l.end - l.time
