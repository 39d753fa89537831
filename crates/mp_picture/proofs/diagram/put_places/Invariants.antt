use Rattle.std.proofs.Common.{Ok, take}
use Rattle.std.specs.List.{flat_map}
use Rattle.mp_streams.specs.WriteErrors.{Writes}
use Rattle.mp_picture.specs.Found.{place_row}
use Rattle.mp_picture.proofs.diagram.put_places.Given as goal

-- the rows so far are written
abbrev pub invariant-loop-place : goal.invariant-loop-place
invariant-loop-place g l = Writes {T = Unit {0}} (Ok tt) l.fn.out l.out (flat_map (λ place. place_row l.netlist l.layout place l.found) (take l.place-index l.places))
