use Rattle.std.proofs.Common.{◌≡◌, ◌<◌, ℕ, length}
use Rattle.mp_depend.specs.recording.Overlays.{overlay_at}
use Rattle.mp_depend.proofs.lemmas.recording.KeepLemmas.{IsFirst}
use Rattle.mp_depend.proofs.recording.first_overlays.first_overlays.Given as goal

-- those so far
abbrev pub invariant-loop-m : goal.invariant-loop-m
invariant-loop-m l = record {
  places : length l.overlays.items ≡ l.m;
  each : (k : ℕ) → k < l.m → IsFirst l.new l.touched k (overlay_at l.overlays.items k);
}
