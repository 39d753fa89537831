use Rattle.std.proofs.Common.{◌≡◌, map, option_map, take}
use Rattle.std.specs.Arc.{arc_value}
use Rattle.mp_partition.proofs.runs.states.kept_in_pieces.Given as goal

-- those so far
abbrev pub invariant-loop-states : goal.invariant-loop-states
invariant-loop-states l = l.list ≡ map (option_map arc_value) (take l.states-index l.kept)
