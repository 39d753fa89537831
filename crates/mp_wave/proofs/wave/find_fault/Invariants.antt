use Rattle.std.proofs.Common.{◌≡◌, ℕ, ◌<◌}
use Rattle.mp_wave.specs.Faults.{IsChange, pair_at, pair_before}
use Rattle.mp_wave.proofs.wave.find_fault.Given as goal

-- each pair so far is a change
abbrev pub invariant-loop-place : goal.invariant-loop-place
invariant-loop-place l = record {
  before_is : l.before ≡ pair_before l.fn.initial l.pairs l.place;
  changes_so_far : (place : ℕ) → place < l.place → IsChange (pair_before l.fn.initial l.pairs place) (pair_at l.pairs place);
}
