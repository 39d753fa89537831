use Rattle.std.proofs.Common.{◌≡◌, take}
use Rattle.mp_check.specs.Grouping.{keyed_groups}
use Rattle.mp_check.proofs.grouping.keyed_groups.Given as goal

-- the groups of the problems so far
abbrev pub invariant-loop-problem : goal.invariant-loop-problem
invariant-loop-problem l = l.groups.entries ≡ keyed_groups (take l.problem-index l.problems)
