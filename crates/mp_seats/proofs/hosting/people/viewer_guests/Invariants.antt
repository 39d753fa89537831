use Rattle.std.proofs.Common.{◌≡◌, ◌+◌, ◌≤◌, map, vec_len}
use Rattle.std.specs.Prelude.{vec_capacity}
use Rattle.std.specs.Vec.Iter.{into_iter_len}
use Rattle.mp_seats.proofs.hosting.people.viewer_guests.Given as goal

-- the guests so far, and room for the others
abbrev pub invariant-loop-viewer : goal.invariant-loop-viewer
invariant-loop-viewer g l = (map (λ x. x.viewer) l.guests.items ≡ l.yielded) × (vec_len l.guests + into_iter_len l.viewer-iterator ≤ vec_capacity l.guests)
