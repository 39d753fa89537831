use Rattle.std.proofs.Common.{◌≡◌, ℕ, ◌<◌, ◌≤◌, length, drop, get_or}
use Rattle.mp_wave.specs.WaveChanges.{changes_in}
use Rattle.mp_questions.specs.timing.Events.{times_of}
use Rattle.mp_questions.specs.timing.Extremes.{extremes}
use Rattle.mp_questions.specs.timing.Measures.{gaps, gaps_from}
use Rattle.mp_questions.proofs.lemmas.timing.ExtremeLemmas.{widened_all}
use Rattle.mp_questions.proofs.timing.margins.gaps.Given as goal

-- with the gaps to come the extremes so far are those of all, and no event to come is earlier than the last one
abbrev pub invariant-loop-place : goal.invariant-loop-place
invariant-loop-place l = record {
  found : widened_all l.found (gaps_from l.before (times_of (drop l.place (changes_in l.later)))) ≡ extremes (gaps (times_of (changes_in l.events)));
  within : l.place ≤ length (changes_in l.later);
  rising : (j : ℕ) → l.place ≤ j → j < length (changes_in l.later) → l.before ≤ (get_or (changes_in l.later) j (0, 0)).0;
}
