use Rattle.std.proofs.Common.{◌≡◌, ◌+◌, ◌-◌, ◌<◌, ◌≤◌}
use Rattle.mp_questions.specs.timing.Hearing.{IsWatch}
use Rattle.mp_questions.proofs.timing.client_watch.follow.Given as goal

-- the module a unit before the next event
abbrev pub invariant-loop-now : goal.invariant-loop-now
invariant-loop-now l = record {
  end : l.end ≡ l.at.time + 1;
  some : 0 < l.now;
  within : l.now ≤ l.end;
  watch : IsWatch l.at.netlist.now l.fn.id.0 l.found (l.now - 1) (record { memory = l.memory; marks = l.marks });
}

abbrev pub decreases-loop-now : goal.decreases-loop-now
decreases-loop-now l = l.end - l.now
