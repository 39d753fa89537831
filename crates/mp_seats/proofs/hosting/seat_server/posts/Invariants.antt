use Rattle.std.proofs.Common.{◌≡◌, ◌+◌, ◌≤◌, ◌++◌, length, map, vec_len}
use Rattle.std.specs.Prelude.{vec_capacity}
use Rattle.std.specs.Iterator.Adapters.{zip_first, zip_second}
use Rattle.std.specs.Vec.Iter.{into_iter_items, into_iter_len}
use Rattle.mp_seats.proofs.hosting.seat_server.posts.Given as goal

-- the posts so far, the guests and doors that are left, and room for their posts
abbrev pub invariant-loop-guest : goal.invariant-loop-guest
invariant-loop-guest g l =
    (goal.iterator-loop-guest g).can_next l.guest-iterator × (goal.iterator-loop-guest g).is_finite l.guest-iterator
    × (map (λ p. p.seat) l.posts.items ++ map g.G.Occupant.seated (into_iter_items (zip_first l.guest-iterator)) ≡ map g.G.Occupant.seated l.fn.guests.items)
    × (map (λ p. p.door) l.posts.items ++ into_iter_items (zip_second l.guest-iterator) ≡ l.fn.doors.items)
    × (into_iter_len (zip_first l.guest-iterator) ≡ into_iter_len (zip_second l.guest-iterator))
    × (into_iter_len (zip_first l.guest-iterator) ≡ length (into_iter_items (zip_first l.guest-iterator)))
    × (into_iter_len (zip_second l.guest-iterator) ≡ length (into_iter_items (zip_second l.guest-iterator)))
    × (vec_len l.posts + into_iter_len (zip_first l.guest-iterator) ≤ vec_capacity l.posts)
