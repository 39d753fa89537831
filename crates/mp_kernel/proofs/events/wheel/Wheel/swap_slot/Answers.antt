use Rattle.std.proofs.Common.{rules, ◌≡◌, ◌<◌, [], List, length, slice_index_or, slice_set, ap, ◌∙◌, arith}
use Rattle.std.proofs.lemmas.List.{get_or_read}
use Rattle.mp_kernel.specs.events.EventWheels.{turned_by}
use Rattle.mp_kernel.proofs.lemmas.events.WheelLemmas.{place_after, turned_length, turned_set, turned_slot}
use Rattle.mp_kernel.proofs.events.wheel.Wheel.swap_slot.Goals as goal

pub returns-clause-wheel : goal.returns-clause-wheel
returns-clause-wheel g c =
    let slots = c.self.inside.slots.items in
    let next = c.self.inside.next in
    let place = c.place_after-place.result in
    let later = c.args.units in
    let within : c.self.inside.next < length c.self.inside.slots.items = search rules in
    let long = turned_length slots next (omega arith) in
    let same = ap (length {A = List g.row.E.Denot}) c.self.view_is in
    let low = c.requires in
    let fits : c.args.units < length c.self.inside.slots.items = omega arith in
    let units : c.len.result ≡ length c.self.inside.slots.items = search rules in
    ap (λ (slot : List g.row.E.Denot). turned_by next (slice_set slots place slot)) c.swap.ensures.x_after
    ∙ turned_set slots next within later place c.args.other.now (c.place_after-place.ensures.value ∙ ap (place_after next later) units) fits
    ∙ ap (λ (view : List (List g.row.E.Denot)). slice_set view later c.args.other.now) c.self.view_is

pub returns-clause-other : goal.returns-clause-other
returns-clause-other g c =
    let slots = c.self.inside.slots.items in
    let next = c.self.inside.next in
    let place = c.place_after-place.result in
    let later = c.args.units in
    let within : c.self.inside.next < length c.self.inside.slots.items = search rules in
    let long = turned_length slots next (omega arith) in
    let same = ap (length {A = List g.row.E.Denot}) c.self.view_is in
    let low = c.requires in
    let fits : c.args.units < length c.self.inside.slots.items = omega arith in
    let units : c.len.result ≡ length c.self.inside.slots.items = search rules in
    let placed : c.place_after-place.result < length c.self.inside.slots.items = search rules in
    c.swap.ensures.y_after
    ∙ get_or_read slots place c.index_mut.result.now placed c.index_mut.ensures.value []
    ∙ ap (λ k. slice_index_or slots k []) (c.place_after-place.ensures.value ∙ ap (place_after next later) units)
    ∙ turned_slot slots next within later fits
    ∙ ap (λ (view : List (List g.row.E.Denot)). slice_index_or view later []) c.self.view_is
