use Rattle.std.proofs.Common.{◌≡◌, false}
use Rattle.std.specs.List.{AllWithin}
use Rattle.mp_active.specs.compare.Comparing.{is_tracked}
use Rattle.mp_active.proofs.compare.comparison.Comparison.tracks_none.Given as goal

-- none so far is tracked
abbrev pub invariant-loop-number : goal.invariant-loop-number
invariant-loop-number l = AllWithin (λ x. is_tracked l.self x l.time ≡ false) l.numbers 0 l.number-index
