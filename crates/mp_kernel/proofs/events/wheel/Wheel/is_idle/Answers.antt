use Rattle.std.proofs.Common.{rules, ◌≡◌, ◌∙◌, List, sym, ap, subst}
use Rattle.std.specs.List.{list_all}
use Rattle.mp_kernel.specs.events.EventWheels.{is_empty, AreEmpty}
use Rattle.mp_kernel.proofs.lemmas.events.EmptyLemmas.{empty_from, empty_whole, seen_empty, empty_seen}
use Rattle.mp_kernel.proofs.events.wheel.Wheel.is_idle.Goals as goal

pub returns : goal.returns
returns g c =
    let slots = c.self.inside.slots.items in
    let next = c.self.inside.next in
    let same : c.as_slice.result.now ≡ c.self.inside.slots.items = search rules in
    let seen = c.are_empty.ensures ∙ ap (λ (xs : List (List g.row.E.Denot)). list_all is_empty xs) same in (
      λ idle. subst AreEmpty c.self.view_is (empty_from next slots (seen_empty slots (sym seen ∙ idle))),
      λ empty. seen ∙ empty_seen slots (empty_whole next slots (subst AreEmpty (sym c.self.view_is) empty)),
    )
