use Rattle.std.proofs.Common.{◌≡◌, ℕ, ◌≤◌, length}
use Rattle.mp_wave.specs.WaveChanges.{changes_in}
use Rattle.mp_questions.specs.timing.Trails.{last_upto, next_after}
use Rattle.mp_questions.proofs.timing.trail.Trail.upto.Given as goal

-- what is left tells the same from the time on
abbrev pub invariant-loop-change : goal.invariant-loop-change
invariant-loop-change l = record {
  last : (t : ℕ) → l.time ≤ t → last_upto l.last (changes_in l.changes) t ≡ last_upto l.fn.self.last (changes_in l.fn.self.changes) t;
  next : (t : ℕ) → l.time ≤ t → next_after (changes_in l.changes) t ≡ next_after (changes_in l.fn.self.changes) t;
}

abbrev pub decreases-loop-change : goal.decreases-loop-change
decreases-loop-change l = length (changes_in l.changes)
