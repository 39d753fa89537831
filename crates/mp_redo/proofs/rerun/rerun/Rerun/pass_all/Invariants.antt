use Rattle.std.proofs.Common.{◌≡◌, ◌-◌, ◌≤◌}
use Rattle.mp_redo.specs.rerun.Windows.{IsUnderWay}
use Rattle.mp_redo.proofs.rerun.rerun.Rerun.pass_all.Given as goal

-- the units before are over
abbrev pub invariant-loop-time : goal.invariant-loop-time
invariant-loop-time g l = record {
  some : 1 ≤ l.time;
  most : l.time ≤ l.change.new.now.horizon;
  entered : l.entered.end ≡ l.self.window_end;
  before : IsUnderWay l.change.old.now l.change.new.now l.change.run.now (l.time - 1) l.self;
}

abbrev pub decreases-loop-time : goal.decreases-loop-time
decreases-loop-time g l = l.horizon - l.time
