use Rattle.std.proofs.Common.{refl, ap, length, map, arith}
use Rattle.mp_seats.proofs.lemmas.hosting.PeopleLemmas.{one_placed}
use Rattle.mp_seats.proofs.hosting.seat_server.posts.Goals as goal

pub loop-guest-preserved : goal.loop-guest-preserved
loop-guest-preserved g c =
    let before = c.loop-guest.invariant in
    let guest = c.in-Some.ensures.steps.0 in
    let door = c.in-Some.ensures.steps.1 in (
      (tt, tt),
      tt,
      one_placed (λ p. p.seat) c.loop-guest.posts.items c.push_reserved.new.self.items _ _ _ _ _ c.push_reserved.ensures.items (ap (map g.G.Occupant.seated) guest.0) c.new-seat.ensures before.2,
      one_placed (λ p. p.door) c.loop-guest.posts.items c.push_reserved.new.self.items _ _ _ _ _ c.push_reserved.ensures.items door.0 refl before.3,
      omega (arith, guest.1, door.1, before.4),
      omega (arith, guest.1, before.5, ap length guest.0),
      omega (arith, door.1, before.6, ap length door.0),
      omega (arith, guest.1, before.7, c.push_reserved.ensures.len, c.push_reserved.ensures.capacity),
    )
