use Rattle.std.proofs.Common.{ℕ, ◌<◌, All, take}
use Rattle.mp_partition.proofs.regions.division.are_below.Given as goal

-- those so far
abbrev pub invariant-loop-home : goal.invariant-loop-home
invariant-loop-home l = All (λ (home : ℕ). home < l.parts) (take l.home-index l.homes)
