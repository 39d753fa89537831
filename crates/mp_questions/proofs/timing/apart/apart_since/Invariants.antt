use Rattle.std.proofs.Common.{◌≡◌, ℕ, ◌<◌, ◌≤◌}
use Rattle.mp_questions.specs.timing.Events.{since}
use Rattle.mp_questions.specs.timing.Hearing.{HearsPort}
use Rattle.mp_questions.specs.timing.Waits.{apart}
use Rattle.mp_questions.proofs.timing.apart.apart_since.Given as goal

-- the last events of both up to a time, since when it is told as up to the first one
abbrev pub invariant-loop-ours : goal.invariant-loop-ours
invariant-loop-ours l = record {
  upto : l.upto ≤ l.fn.time;
  low : l.ours ≤ l.upto;
  ours : (f : ℕ → ℕ) (end : ℕ) → HearsPort f end l.fn.one → l.fn.time < end → l.ours ≡ since f l.upto;
  theirs : (g : ℕ → ℕ) (end : ℕ) → HearsPort g end l.fn.other → l.fn.time < end → l.theirs ≡ since g l.upto;
  apart : (f g : ℕ → ℕ) (end : ℕ) → HearsPort f end l.fn.one → HearsPort g end l.fn.other → l.fn.time < end → ((t : ℕ) → f t < 2) → ((t : ℕ) → g t < 2)
      → since (apart f g) l.upto ≡ since (apart f g) l.fn.time;
}

abbrev pub decreases-loop-ours : goal.decreases-loop-ours
decreases-loop-ours l = l.upto
