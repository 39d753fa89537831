use Rattle.std.proofs.Common.{◌<◌}
use Rattle.mp_partition.proofs.regions.division.count_of.Given as goal

-- there is one at least
abbrev pub invariant-loop-home : goal.invariant-loop-home
invariant-loop-home l = 0 < l.count
