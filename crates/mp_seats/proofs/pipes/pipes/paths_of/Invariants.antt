use Rattle.std.proofs.Common.{◌≡◌, map, take}
use Rattle.mp_seats.specs.pipes.PipeTexts.{paths_in}
use Rattle.mp_seats.proofs.pipes.pipes.paths_of.Given as goal

-- the paths of the seats so far
abbrev pub invariant-loop-place : goal.invariant-loop-place
invariant-loop-place l = l.paths.items ≡ map (paths_in l.folder l.own) (take l.place l.seats)
