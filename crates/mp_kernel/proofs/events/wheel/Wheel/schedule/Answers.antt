use Rattle.std.proofs.Common.{rules, ◌≡◌, ◌-◌, ◌<◌, ◌++◌, ◌∷◌, [], List, length, slice_index_or, slice_set, ap, ◌∙◌, arith}
use Rattle.std.proofs.lemmas.List.{get_or_read}
use Rattle.mp_kernel.specs.events.EventWheels.{with_entry, turned_by}
use Rattle.mp_kernel.proofs.lemmas.events.WheelLemmas.{place_after, turned_length, turned_entry}
use Rattle.mp_kernel.proofs.events.wheel.Wheel.schedule.Goals as goal

pub returns : goal.returns
returns g c =
    let slots = c.self.inside.slots.items in
    let next = c.self.inside.next in
    let place = c.place_after-place.result in
    let later = c.args.delay - 1 in
    let within : c.self.inside.next < length c.self.inside.slots.items = search rules in
    let long = turned_length slots next (omega arith) in
    let same = ap (length {A = List g.row.E.Denot}) c.self.view_is in
    let some = c.requires.some in
    let low = c.requires.within in
    let fits : c.args.delay - 1 < length c.self.inside.slots.items = omega arith in
    let placed : c.place_after-place.result < length c.self.inside.slots.items = search rules in
    let units : c.len.result ≡ length c.self.inside.slots.items = search rules in
    let old : c.index_mut.result.now ≡ slice_index_or c.self.inside.slots.items c.place_after-place.result [] = get_or_read slots place c.index_mut.result.now placed c.index_mut.ensures.value [] in
    ap (λ (slot : List g.row.E.Denot). turned_by next (slice_set slots place slot)) (c.in_ok-push.ensures ∙ ap (λ (slot : List g.row.E.Denot). slot ++ c.args.entry ∷ []) old)
    ∙ turned_entry slots next within later place c.args.entry (c.place_after-place.ensures.value ∙ ap (place_after next later) units) fits
    ∙ ap (λ (view : List (List g.row.E.Denot)). with_entry view later c.args.entry) c.self.view_is
