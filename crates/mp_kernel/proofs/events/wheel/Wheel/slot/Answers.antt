use Rattle.std.proofs.Common.{rules, ◌≡◌, ◌<◌, ◌≤◌, [], List, length, slice_index_or, sym, ap, ◌∙◌, arith}
use Rattle.std.proofs.lemmas.List.{get_or_read, get_or_past}
use Rattle.mp_kernel.proofs.lemmas.events.WheelLemmas.{place_after, turned_length, turned_slot}
use Rattle.mp_kernel.proofs.events.wheel.Wheel.slot.Goals as goal

pub returns-then-units-len : goal.returns-then-units-len
returns-then-units-len g c =
    let slots = c.self.inside.slots.items in
    let within : c.self.inside.next ≤ length slots = search rules in
    let past : length slots ≤ c.args.units = search rules in
    let long = turned_length slots c.self.inside.next within in
    sym (get_or_past _ c.args.units [] (omega (arith, past, long))) ∙ ap (λ (view : List (List g.row.E.Denot)). slice_index_or view c.args.units []) c.self.view_is

pub returns : goal.returns
returns g c =
    let slots = c.self.inside.slots.items in
    let next = c.self.inside.next in
    let place = c.place_after-place.result in
    let within : next < length slots = search rules in
    let units : c.len-2.result ≡ length slots = search rules in
    let fits : c.args.units < length slots = search rules in
    let placed : place < length slots = search rules in
    c.as_slice.ensures
    ∙ get_or_read slots place c.index.result.now placed c.index.ensures []
    ∙ ap (λ k. slice_index_or slots k []) (c.place_after-place.ensures.value ∙ ap (place_after next c.args.units) units)
    ∙ turned_slot slots next within c.args.units fits
    ∙ ap (λ (view : List (List g.row.E.Denot)). slice_index_or view c.args.units []) c.self.view_is
