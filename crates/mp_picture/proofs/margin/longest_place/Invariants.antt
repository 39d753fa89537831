use Rattle.std.proofs.Common.{◌≡◌, ◌<◌, ◌^◌, map, take}
use Rattle.mp_picture.specs.Found.{place_name}
use Rattle.mp_picture.specs.Diagrams.{longest}
use Rattle.mp_picture.proofs.margin.longest_place.Given as goal

-- the longest so far
abbrev pub invariant-loop-place : goal.invariant-loop-place
invariant-loop-place l = record {
  value : l.longest ≡ longest (map (place_name l.netlist) (take l.place-index l.places));
  short : l.longest < 2 ^ 63;
}
