use Rattle.std.proofs.Common.{◌≡◌, take}
use Rattle.mp_netlist.proofs.slots.in_pieces.Given as goal

-- the slots so far
abbrev pub invariant-loop-place : goal.invariant-loop-place
invariant-loop-place g l = l.pieces ≡ take l.place l.list
