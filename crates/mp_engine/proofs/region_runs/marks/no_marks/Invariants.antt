use Rattle.std.proofs.Common.{◌≡◌, ℕ, false, length}
use Rattle.mp_partition.specs.runs.Marks.{is_marked}
use Rattle.mp_engine.proofs.region_runs.marks.no_marks.Given as goal

-- none so far
abbrev pub invariant-loop-place : goal.invariant-loop-place
invariant-loop-place l = record {
  places : length l.marks.items ≡ l._place;
  none : (m : ℕ) → is_marked l.marks.items m ≡ false;
}
