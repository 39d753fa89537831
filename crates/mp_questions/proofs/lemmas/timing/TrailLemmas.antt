-- Reading a wire's events by rising time.
use Rattle.std.proofs.Common.{ℕ, ◌≤◌, List, [], ◌∷◌, Option, Some, IfSome, inl, inr, arith}
use Rattle.std.proofs.lemmas.Bool.{cases_lt}
use Rattle.mp_wave.proofs.WaveformLemmas.{nat_le-true, nat_le-false}
use Rattle.mp_questions.specs.declared.timing.trail.Trail.{Trail}
use Rattle.mp_questions.specs.timing.Trails.{last_upto, next_after, IsTrail}

-- what tells from a time on tells from later ones on
pub trail_later : (changes : List (ℕ × ℕ)) (from later : ℕ) (trail : Trail) → from ≤ later → IsTrail changes from trail → IsTrail changes later trail
trail_later changes from later trail le is = record { last = λ t low. is.last t (omega (arith, le, low)); next = λ t low. is.next t (omega (arith, le, low)) }

-- the last event up to a time isn't later
pub last_low : (changes : List (ℕ × ℕ)) (last : Option ℕ) (t : ℕ) → IfSome last (λ u. u ≤ t) → IfSome (last_upto last changes t) (λ u. u ≤ t)
last_low [] last t low = low
last_low (x ∷ changes) last t low =
    elim (cases_lt t x.0) as (λ _. IfSome (last_upto last (x ∷ changes) t) (λ u. u ≤ t)) [
      | inl later ↦ rw (nat_le-false x.0 t later) low
      | inr sooner ↦ rw (nat_le-true x.0 t sooner) (last_low changes (Some x.0) t sooner)
    ]

-- the next event is later
pub next_high : (changes : List (ℕ × ℕ)) (t : ℕ) → IfSome (next_after changes t) (λ u. t ≤ u)
next_high [] t = tt
next_high (x ∷ changes) t =
    elim (cases_lt t x.0) as (λ _. IfSome (next_after (x ∷ changes) t) (λ u. t ≤ u)) [
      | inl later ↦ rw (nat_le-false x.0 t later) (let le : t ≤ x.0 = omega (arith, later) in le)
      | inr sooner ↦ rw (nat_le-true x.0 t sooner) (next_high changes t)
    ]
