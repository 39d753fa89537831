use Rattle.std.proofs.Common.{◌≡◌, take}
use Rattle.mp_picture.specs.Found.{places_of}
use Rattle.mp_picture.specs.PlaceKeys.{HasPlaces}
use Rattle.mp_picture.proofs.found.places_of.Given as goal

-- the places of the findings so far
abbrev pub invariant-loop-finding : goal.invariant-loop-finding
invariant-loop-finding l = record {
  places : l.places.items ≡ places_of (take l.finding-index l.found);
  seen : HasPlaces l.seen l.places.items;
}
