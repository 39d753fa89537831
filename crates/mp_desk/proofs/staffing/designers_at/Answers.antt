use Rattle.std.proofs.Common.{rules, ◌≡◌, ◌++◌, ◌∷◌, [], sym, subst}
use Rattle.mp_version.specs.publication.Knowing.{Known}
use Rattle.mp_desk.specs.Holders.{AreFresh}
use Rattle.mp_desk.proofs.StaffLemmas.{all_front, one_more_fresh}
use Rattle.mp_desk.proofs.staffing.designers_at.Goals as goal

pub loop-pass-preserved : goal.loop-pass-preserved
loop-pass-preserved g c =
    let story = c.args.writer.now.story in
    let parts : c.loop-pass.places.items ≡ c.pop.new.self.items ++ c.in-Some.pass ∷ [] = search rules in (
      all_front (λ (p : Known). p ≡ record { book = g.L.DeskName.history; story = story } ∷ []) c.loop-pass.places.items c.pop.new.self.items (c.in-Some.pass ∷ []) parts c.loop-pass.invariant.0,
      subst (AreFresh story) (sym c.in_ok-push.ensures.items) (one_more_fresh story c.loop-pass.made.items c.designer_at-next.result c.loop-pass.invariant.1 (search rules)),
      search rules,
      search rules,
      search rules,
    )
