use Rattle.std.proofs.Common.{◌∙◌, arith}
use Rattle.mp_seats.specs.hosting.Guests.{looker}
use Rattle.mp_seats.proofs.lemmas.hosting.PeopleLemmas.{seen_through, as_many_of}
use Rattle.mp_seats.proofs.hosting.people.viewer_posts.Goals as goal

pub posts-requires : goal.posts-requires
posts-requires g c = let same = as_many_of (λ x. x.viewer) c.in_ok-guests.guests.items c.args.viewers.items c.in_ok-guests.ensures in omega (arith, same)

pub returns-clause-seats : goal.returns-clause-seats
returns-clause-seats g c = c.in_ok-made.ensures.seats ∙ seen_through looker (λ x. x.viewer) c.in_ok-guests.guests.items c.args.viewers.items c.in_ok-guests.ensures
