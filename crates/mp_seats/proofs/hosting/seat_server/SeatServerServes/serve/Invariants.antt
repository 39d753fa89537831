use Rattle.mp_seats.specs.Replies.{signed_writing}
use Rattle.mp_seats.specs.hosting.Stays.{WasSignedAttended}
use Rattle.mp_seats.proofs.hosting.seat_server.SeatServerServes.serve.Given as goal

-- those who came so far were served
abbrev pub invariant-loop : goal.invariant-loop
invariant-loop g l =
    (goal.iterator-loop g).can_next l.iterator' × (goal.iterator-loop g).is_finite l.iterator'
    × WasSignedAttended g.row.D-Output.Denot g.D.Door.Comes g.D.Door.Leaves g.D.Door.TurnsAway (signed_writing g.B.ReplyWriter.answer_text g.B.ReplyWriter.reply_text) g.G.Occupant.edits l.fn.self.seat
    l.fn.self.door l.self.seat l.self.door
