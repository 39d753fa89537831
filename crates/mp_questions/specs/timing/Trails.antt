-- Reading a wire's events by rising time.
use Rattle.std.specs.Prelude.{◌≡◌, ℕ, ◌≤◌, List, [], ◌∷◌, Option, Some, None, nat_le, if◌then◌else◌}
use Rattle.mp_wave.specs.WaveChanges.{changes_in}
use Rattle.mp_questions.specs.declared.timing.trail.Trail.{Trail}

-- the time of the last change up to a time, behind one that was before
abbrev pub last_upto : Option ℕ → List (ℕ × ℕ) → ℕ → Option ℕ
last_upto last [] t = last
last_upto last (change ∷ changes) t = if nat_le change.0 t then last_upto (Some change.0) changes t else last

-- the time of the first change after a time
abbrev pub next_after : List (ℕ × ℕ) → ℕ → Option ℕ
next_after [] t = None
next_after (change ∷ changes) t = if nat_le change.0 t then next_after changes t else Some change.0

-- the time of the first change
abbrev pub first_time : List (ℕ × ℕ) → Option ℕ
first_time [] = None
first_time (change ∷ changes) = Some change.0

-- a trail tells of these changes from a time on
pub record IsTrail (changes : List (ℕ × ℕ)) (from : ℕ) (trail : Trail) : Type 0 where
  pub last : (t : ℕ) → from ≤ t → last_upto trail.last (changes_in trail.changes) t ≡ last_upto None changes t
  pub next : (t : ℕ) → from ≤ t → next_after (changes_in trail.changes) t ≡ next_after changes t
