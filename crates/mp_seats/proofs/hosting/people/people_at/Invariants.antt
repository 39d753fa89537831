use Rattle.std.proofs.Common.{◌≡◌, ◌+◌, ◌≤◌, map, vec_len}
use Rattle.std.specs.Prelude.{vec_capacity}
use Rattle.std.specs.Vec.Iter.{into_iter_len}
use Rattle.mp_seats.proofs.hosting.people.people_at.Given as goal

-- those who rose so far, and room for the others
abbrev pub invariant-loop-post : goal.invariant-loop-post
invariant-loop-post g l = (map g.G.Rises.seated_as l.people.items ≡ map (λ p. p.seat) l.yielded) × (vec_len l.people + into_iter_len l.post-iterator ≤ vec_capacity l.people)
