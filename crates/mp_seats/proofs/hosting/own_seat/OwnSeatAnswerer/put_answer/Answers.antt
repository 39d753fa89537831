use Rattle.std.proofs.Common.{◌≡◌, true, false, refl, ap, ◌∙◌, rules}
use Rattle.mp_seats.specs.Replies.{signed_writing}
use Rattle.mp_seats.specs.hosting.OwnSeats.{Owner}
use Rattle.mp_seats.proofs.lemmas.hosting.OwnLemmas.{as_any, told}
use Rattle.mp_seats.proofs.hosting.own_seat.OwnSeatAnswerer.put_answer.Goals as goal

pub returns-then-asks_for_seats : goal.returns-then-asks_for_seats
returns-then-asks_for_seats g c =
    let yes : c.asks_for_seats.result ≡ true = search rules in
    told (signed_writing g.B.ReplyWriter.answer_text g.B.ReplyWriter.reply_text) g.G.Occupant.edits _ _ _ _ _ _ (rw yes at c.asks_for_seats.ensures) refl _
    (c.places.ensures ∙ ap (λ (o : Owner). o.names) c.self.view_is) c.put_places.ensures

pub returns : goal.returns
returns g c =
    let no : c.asks_for_seats.result ≡ false = search rules in
    as_any (signed_writing g.B.ReplyWriter.answer_text g.B.ReplyWriter.reply_text) g.G.Occupant.edits _ _ _ _ _ _ (rw no at c.asks_for_seats.ensures)
    (rw (ap (λ (o : Owner). o.seated) c.self.view_is) at c.put_answer.ensures) (ap (λ (o : Owner). o.names) c.self.view_is)
