use Rattle.mp_seats.specs.Replies.{signed_writing}
use Rattle.mp_seats.proofs.SeatLemmas.{signed_visit}
use Rattle.mp_seats.proofs.seat.Seat.serve.Goals as goal

pub returns-clause-visit : goal.returns-clause-visit
returns-clause-visit g c =
    signed_visit (signed_writing g.B.ReplyWriter.answer_text g.B.ReplyWriter.reply_text) g.G.Occupant.edits c.converse.result c.args.self.now c.converse.new.who c.args.lines.now c.converse.new.lines
    c.args.out.now c.converse.new.out c.converse.ensures.conversed
