use Rattle.std.proofs.Common.{◌≡◌, map}
use Rattle.std.specs.List.{range_with_len}
use Rattle.mp_seats.specs.hosting.Places.{named}
use Rattle.mp_seats.proofs.hosting.seat_place.free_places.Given as goal

-- the seats so far
abbrev pub invariant-loop-place : goal.invariant-loop-place
invariant-loop-place l = l.places.items ≡ map (named l.kind) (range_with_len 1 l.place)
