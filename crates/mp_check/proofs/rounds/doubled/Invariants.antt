use Rattle.std.proofs.Common.{◌≡◌, ◌+◌, ℕ, ◌<◌, length, get_or, if◌then◌else◌}
use Rattle.mp_check.specs.Ways.{least, way}
use Rattle.mp_check.specs.Doubling.{AreWays, beyond, next_in}
use Rattle.mp_check.proofs.rounds.doubled.Given as goal

-- the ways of the numbers so far
abbrev pub invariant-loop-number : goal.invariant-loop-number
invariant-loop-number l =
    (length l.beyond.items ≡ l.number) × (length l.least.items ≡ l.number)
    × ((count k : ℕ) → AreWays (next_in l.next) (length l.next) count l.half → k < l.number → get_or l.beyond.items k 0 ≡ beyond (next_in l.next) (count + count + (if l.and_one then 1 else 0)) k)
    × ((count k : ℕ) → AreWays (next_in l.next) (length l.next) count l.half → k < l.number → get_or l.least.items k 0 ≡ least (length l.next) (way (next_in l.next) (count + count + (if l.and_one then 1 else 0)) k))
