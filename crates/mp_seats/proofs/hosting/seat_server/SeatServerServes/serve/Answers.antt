use Rattle.mp_seats.specs.Replies.{signed_writing}
use Rattle.mp_seats.proofs.lemmas.hosting.StayLemmas.{signed_nobody, signed_one_more, signed_no_more}
use Rattle.mp_seats.proofs.hosting.seat_server.SeatServerServes.serve.Goals as goal

pub loop-init : goal.loop-init
loop-init g c = (
  tt,
  tt,
  signed_nobody g.row.D-Output.Denot g.D.Door.Comes g.D.Door.Leaves g.D.Door.TurnsAway (signed_writing g.B.ReplyWriter.answer_text g.B.ReplyWriter.reply_text) g.G.Occupant.edits c.args.self.now.seat
      c.args.self.now.door,
)

pub loop-preserved : goal.loop-preserved
loop-preserved g c = (
  tt,
  tt,
  signed_one_more g.row.D-Output.Denot g.D.Door.Comes g.D.Door.Leaves g.D.Door.TurnsAway (signed_writing g.B.ReplyWriter.answer_text g.B.ReplyWriter.reply_text) g.G.Occupant.edits c.args.self.now.seat
      c.args.self.now.door c.loop.self.seat c.loop.self.door c.attend_next.new.post.seat c.attend_next.new.post.door c.loop.invariant.2 (rw c.if-not-attend_next.false at c.attend_next.ensures),
)

pub returns-then-not-attend_next : goal.returns-then-not-attend_next
returns-then-not-attend_next g c =
    let none = rw c.if-not-attend_next.true at c.attend_next.ensures in
    signed_no_more g.row.D-Output.Denot g.D.Door.Comes g.D.Door.Leaves g.D.Door.TurnsAway (signed_writing g.B.ReplyWriter.answer_text g.B.ReplyWriter.reply_text) g.G.Occupant.edits c.args.self.now.seat
    c.args.self.now.door c.loop.self.seat c.loop.self.door c.attend_next.new.post.seat c.attend_next.new.post.door c.loop.invariant.2 none.0 none.1
