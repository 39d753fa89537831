use Rattle.std.proofs.Common.{ℕ, ◌*◌, ◌≤◌}
use Rattle.mp_partition.specs.runs.Marks.{is_marked}
use Rattle.mp_active.specs.compare.Comparing.{asleep_at}
use Rattle.mp_active.specs.compare.Reading.{asleep_below, active_below, HasRead}
use Rattle.mp_active.proofs.compare.comparison.Comparison.note_readers.Given as goal

-- the modules so far are noted, each with four inputs at most
abbrev pub invariant-loop-m : goal.invariant-loop-m
invariant-loop-m l = record {
  read : HasRead (asleep_below l.new (is_marked l.active) l.inputs l.m) (active_below l.new (is_marked l.active) l.inputs l.fn.self.numbers l.m) l.fn.self l.self;
  few : (x : ℕ) → asleep_at l.self x ≤ 4 * l.m;
}
