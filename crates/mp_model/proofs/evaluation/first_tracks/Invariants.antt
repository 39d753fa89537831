use Rattle.std.proofs.Common.{◌≡◌, map, take, option_map}
use Rattle.mp_model.specs.Tracks.{first_progress}
use Rattle.mp_model.proofs.evaluation.first_tracks.Given as goal

-- the tracks so far are those of the wires so far
abbrev pub invariant-loop-w : goal.invariant-loop-w
invariant-loop-w l = l.tracks.items ≡ map (option_map first_progress) (take l.w l.netlist.wires)
