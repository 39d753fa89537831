use Rattle.std.proofs.Common.{rules, ◌∙◌}
use Rattle.mp_seats.proofs.lemmas.hosting.PeopleLemmas.{both_more}
use Rattle.mp_seats.proofs.hosting.people.people_at.Goals as goal

pub loop-post-preserved : goal.loop-post-preserved
loop-post-preserved g c = (
  both_more g.G.Rises.seated_as (λ p. p.seat) c.loop-post.people.items c.push_reserved.new.self.items _ c.loop-post.yielded c.in-Some.post c.push_reserved.ensures.items c.loop-post.invariant.0
      (c.rise.ensures ∙ c.into_guest.ensures),
  search rules,
)
