use Rattle.std.proofs.Common.{◌≡◌, ◌++◌, map, take, drop, option_map}
use Rattle.mp_model.specs.Tracks.{advanced}
use Rattle.mp_model.proofs.evaluation.advance_all.Given as goal

-- the tracks so far have gone on, and the others stand
abbrev pub invariant-loop-slot : goal.invariant-loop-slot
invariant-loop-slot l = l.slot-items ≡ map (option_map (advanced l.time)) (take l.slot-index l.fn.tracks.items) ++ drop l.slot-index l.fn.tracks.items
