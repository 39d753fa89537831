use Rattle.std.proofs.Common.{◌≡◌, ℕ, ◌<◌, ◌≤◌, true, length}
use Rattle.mp_partition.specs.runs.Marks.{is_marked}
use Rattle.mp_near.proofs.reach.named.marks_from.Given as goal

-- those so far
abbrev pub invariant-loop-number : goal.invariant-loop-number
invariant-loop-number l = record {
  places : length l.marks.items ≡ l.count;
  marked : (k : ℕ) → l.first ≤ k → k < l.number → is_marked l.marks.items k ≡ true;
}
