use Rattle.std.proofs.Common.{◌≡◌, ◌⊎◌, ℕ, ◌<◌, false}
use Rattle.mp_active.specs.compare.Comparing.{is_tracked}
use Rattle.mp_redo.specs.rerun.Settling.{IsOver}
use Rattle.mp_redo.proofs.rerun.rerun.Rerun.are_numbers_settled.Given as goal

-- so do those before
abbrev pub invariant-loop-number : goal.invariant-loop-number
invariant-loop-number l = (x : ℕ) → x < l.number → (is_tracked l.self.comparison x l.time ≡ false) ⊎ IsOver l.change.new.now l.change.run.now l.self.comparison x l.time
