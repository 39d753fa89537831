use Rattle.std.proofs.Common.{◌≡◌, map, take}
use Rattle.mp_near.specs.laws.Picking.{placed_input}
use Rattle.mp_near.specs.reach.Numbers.{place_at}
use Rattle.mp_near.proofs.region.likeness.are_placed_inputs.Given as goal

-- those so far are the same
abbrev pub invariant-loop-port : goal.invariant-loop-port
invariant-loop-port l = take l.port l.others ≡ map (placed_input (place_at l.wires.places.items)) (take l.port l.ones)
