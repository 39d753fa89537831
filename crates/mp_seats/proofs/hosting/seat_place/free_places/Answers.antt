use Rattle.std.proofs.Common.{◌+◌, ◌∷◌, ◌++◌, [], ◌∙◌, map, sym, ap, arith}
use Rattle.std.specs.List.{range_with_len}
use Rattle.std.proofs.lemmas.List.FromFn.{map-range_with_len_more}
use Rattle.mp_seats.specs.declared.hosting.seat_place.SeatName.{SeatName}
use Rattle.mp_seats.specs.hosting.Places.{named}
use Rattle.mp_seats.proofs.hosting.seat_place.free_places.Goals as goal

pub loop-place-preserved : goal.loop-place-preserved
loop-place-preserved c =
    c.in_ok-push.ensures.items ∙ ap (λ l. l ++ c.free_place.result ∷ []) c.loop-place.invariant
    ∙ ap (λ (x : SeatName). map (named c.args.kind) (range_with_len 1 c.loop-place.place) ++ x ∷ []) c.free_place.ensures
    ∙ sym (map-range_with_len_more (named c.args.kind) 1 c.loop-place.place (c.loop-place.place + 1) (omega arith))
