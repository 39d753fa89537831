use Rattle.std.proofs.Common.{◌≡◌, ◌<◌, ◌^◌, map, take}
use Rattle.mp_text.specs.Written.{wire_name}
use Rattle.mp_picture.specs.Diagrams.{longest}
use Rattle.mp_picture.proofs.margin.longest_wire.Given as goal

-- the longest so far
abbrev pub invariant-loop-wire : goal.invariant-loop-wire
invariant-loop-wire l = record {
  value : l.longest ≡ longest (map (wire_name l.netlist) (take l.wire-index l.wires));
  short : l.longest < 2 ^ 63;
}
