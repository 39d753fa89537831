use Rattle.std.proofs.Common.{◌≡◌, ◌+◌, ◌≤◌, map, vec_len}
use Rattle.std.specs.Prelude.{vec_capacity}
use Rattle.std.specs.Vec.Iter.{into_iter_len}
use Rattle.mp_seats.proofs.hosting.people.designer_guests.Given as goal

-- the guests so far, and room for the others
abbrev pub invariant-loop-sitting : goal.invariant-loop-sitting
invariant-loop-sitting g l = (map (λ x. x.sitting) l.guests.items ≡ l.yielded) × (vec_len l.guests + into_iter_len l.sitting-iterator ≤ vec_capacity l.guests)
