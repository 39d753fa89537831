use Rattle.std.proofs.Common.{◌≡◌, ◌<◌, ℕ, false, length}
use Rattle.std.specs.Prelude.{slice_index_or}
use Rattle.mp_active.specs.compare.Comparing.{off}
use Rattle.mp_active.specs.compare.First.{IsFirst}
use Rattle.mp_active.proofs.compare.first_sources.first_sources.Given as goal

-- those so far
abbrev pub invariant-loop-w : goal.invariant-loop-w
invariant-loop-w l = record {
  places : length l.sources.items ≡ l.w;
  each : (k : ℕ) → k < l.w → IsFirst l.old l.new l.active k false (slice_index_or l.sources.items k off);
}
