use Rattle.std.proofs.Common.{◌≡◌, ◌-◌, ◌++◌, length, drop}
use Rattle.mp_simulation.specs.run.Stimuli.{bits_at, levels_at, changes_after}
use Rattle.mp_redo.proofs.rerun.following.list_due.Given as goal

-- what is left gives the rest
abbrev pub invariant-loop-place : goal.invariant-loop-place
invariant-loop-place l = record {
  bits : l.set.bits.items ++ bits_at l.time (drop l.place l.list) ≡ l.fn.set.bits.items ++ bits_at l.time (drop l.from l.list);
  levels : l.set.levels.items ++ levels_at l.time (drop l.place l.list) ≡ l.fn.set.levels.items ++ levels_at l.time (drop l.from l.list);
  left : changes_after l.time (drop l.place l.list) ≡ changes_after l.time (drop l.from l.list);
}

abbrev pub decreases-loop-place : goal.decreases-loop-place
decreases-loop-place l = length l.list - l.place
