use Rattle.std.proofs.Common.{◌≡◌, true, not, take}
use Rattle.std.specs.List.{list_all}
use Rattle.mp_check.proofs.deadlocks.are_unmarked.Given as goal

-- the marks so far are not set
abbrev pub invariant-loop-mark : goal.invariant-loop-mark
invariant-loop-mark l = list_all not (take l.mark-index l.marks) ≡ true
