use Rattle.std.proofs.Common.{◌≡◌, ℕ, ◌<◌, length, get_or}
use Rattle.mp_check.proofs.rounds.no_ways.Given as goal

-- each number so far is behind its own way, on which there is none
abbrev pub invariant-loop-number : goal.invariant-loop-number
invariant-loop-number l =
    (length l.beyond.items ≡ l.number) × (length l.least.items ≡ l.number) × ((k : ℕ) → k < l.number → get_or l.beyond.items k 0 ≡ k)
    × ((k : ℕ) → k < l.number → get_or l.least.items k 0 ≡ l.count)
