use Rattle.std.proofs.Common.{◌≡◌, drop}
use Rattle.mp_steady.specs.Cycles.{from_place}
use Rattle.mp_steady.proofs.cycle.from_place.Given as goal

-- none of the changes so far is of that wire at that time
abbrev pub invariant-loop-place : goal.invariant-loop-place
invariant-loop-place l = from_place l.change (drop l.place l.way) ≡ from_place l.change l.way
