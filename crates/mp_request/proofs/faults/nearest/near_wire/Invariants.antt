use Rattle.std.specs.Prelude.{◌≡◌, drop}
use Rattle.mp_request.specs.faults.Nearest.{nearest, nearest_behind, wire_names}
use Rattle.mp_request.proofs.faults.nearest.near_wire.Given as goal

-- the nearest so far, with the wires that are left
abbrev pub invariant-loop-number : goal.invariant-loop-number
invariant-loop-number l = nearest_behind l.word l.best (wire_names (drop l.number l.netlist.wires)) ≡ nearest l.word (wire_names l.netlist.wires)
