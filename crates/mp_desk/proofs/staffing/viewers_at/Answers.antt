use Rattle.std.proofs.Common.{rules, ◌≡◌, ◌++◌, ◌∷◌, [], Option, All, ap, ◌∙◌, sym, subst}
use Rattle.std.specs.Option.{option_to_list}
use Rattle.std.specs.Arc.{arc_value}
use Rattle.std.proofs.lemmas.List.Elements.{All-push}
use Rattle.mp_version.specs.publication.Knowing.{Known}
use Rattle.mp_desk.specs.Holders.{Seeing, fresh_viewer}
use Rattle.mp_desk.proofs.StaffLemmas.{all_front}
use Rattle.mp_desk.proofs.staffing.viewers_at.Goals as goal

pub loop-pass-preserved : goal.loop-pass-preserved
loop-pass-preserved g c =
    let parts : c.loop-pass.places.items ≡ c.pop.new.self.items ++ c.in-Some.pass ∷ [] = c.pop.ensures.items ∙ ap (λ (o : Option Known). c.pop.new.self.items ++ option_to_list o) c.in-Some.is in (
      all_front (λ (p : Known). p ≡ record { book = g.L.DeskName.history; story = arc_value c.args.version.now } ∷ []) c.loop-pass.places.items c.pop.new.self.items (c.in-Some.pass ∷ []) parts c.loop-pass.invariant.0,
      subst (All (λ (d : Seeing). d ≡ fresh_viewer (arc_value c.args.version.now))) (sym c.in_ok-push.ensures.items)
          (All-push (λ (d : Seeing). d ≡ fresh_viewer (arc_value c.args.version.now)) c.loop-pass.made.items c.in_ok-next.next c.loop-pass.invariant.1 c.in_ok-next.ensures),
      search rules,
    )
