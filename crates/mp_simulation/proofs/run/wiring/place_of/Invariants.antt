use Rattle.std.proofs.Common.{◌≡◌, ℕ, ◌+◌, ◌<◌, ◌≤◌, Option, length}
use Rattle.mp_simulation.specs.bits.Copies.{AreChained}
use Rattle.mp_simulation.proofs.run.wiring.place_of.Given as goal

-- the number is of the wire, and not later than is wanted
abbrev pub invariant-loop-copy : goal.invariant-loop-copy
invariant-loop-copy l = record {
  within : l.number < length l.next;
  low : l.later ≤ l.delay;
  wire : (source : ℕ → ℕ × ℕ) (before : ℕ → Option ℕ) → AreChained source before l.next → (source l.number).0 ≡ (source l.wire).0;
  delay : (source : ℕ → ℕ × ℕ) (before : ℕ → Option ℕ) → AreChained source before l.next → (source l.number).1 + l.later ≡ (source l.wire).1 + l.delay;
}

abbrev pub decreases-loop-copy : goal.decreases-loop-copy
decreases-loop-copy l = l.later
