use Rattle.std.proofs.Common.{rules, ◌≡◌, ◌<◌, ◌++◌, ◌∷◌, [], List, drop, length, slice_set, ap, ◌∙◌}
use Rattle.mp_kernel.specs.events.EventWheels.{turned_by}
use Rattle.mp_kernel.proofs.lemmas.events.WheelLemmas.{place_after, turned_step}
use Rattle.mp_kernel.proofs.events.wheel.Wheel.turn.Goals as goal

pub returns-clause-turned : goal.returns-clause-turned
returns-clause-turned g c =
    let slots = c.self.inside.slots.items in
    let next = c.self.inside.next in
    let within : c.self.inside.next < length c.self.inside.slots.items = search rules in
    let units : c.len.result ≡ length c.self.inside.slots.items = search rules in
    ap (λ (slot : List g.row.E.Denot). turned_by c.place_after-self-inside.result (slice_set slots next slot)) (c.swap.ensures.x_after ∙ c.clear.ensures)
    ∙ turned_step slots next within c.place_after-self-inside.result [] (c.place_after-self-inside.ensures.value ∙ ap (place_after next 1) units)
    ∙ ap (λ (view : List (List g.row.E.Denot)). drop 1 view ++ [] ∷ []) c.self.view_is
