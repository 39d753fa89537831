use Rattle.std.proofs.Common.{ℕ, ◌≤◌}
use Rattle.std.specs.List.{AllWithin}
use Rattle.mp_redo.proofs.rerun.settling.are_up_to.Given as goal

-- those so far do
abbrev pub invariant-loop-pair : goal.invariant-loop-pair
invariant-loop-pair l = AllWithin (λ (change : ℕ × ℕ). change.0 ≤ l.last) l.pairs 0 l.pair-index
