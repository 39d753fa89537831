use Rattle.std.proofs.Common.{◌≡◌, ◌+◌, ◌-◌, ◌<◌, ◌≤◌}
use Rattle.mp_check.proofs.KeptLevelLemmas.{Keeps}
use Rattle.mp_check.proofs.quiet.keeps_level.Given as goal

-- the output has kept the level up to the unit before the next event
abbrev pub invariant-loop-now : goal.invariant-loop-now
invariant-loop-now l = record {
  end : l.end ≡ l.of.end.at.time + 1;
  some : l.after < l.now;
  within : l.now ≤ l.end;
  keeps : Keeps l.of.end.at.netlist.now l.of.id.0 l.level l.after (l.now - 1);
}

abbrev pub decreases-loop-now : goal.decreases-loop-now
decreases-loop-now l = l.end - l.now
