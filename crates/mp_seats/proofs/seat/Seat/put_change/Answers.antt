use Rattle.std.proofs.Common.{Err, subst}
use Rattle.mp_seats.specs.Steps.{Seated, Submits}
use Rattle.mp_seats.specs.declared.refusal.Refusal.TheVariants as refusals
use Rattle.mp_seats.proofs.StepLemmas.{edit_refused, edit_not_kept}
use Rattle.mp_seats.proofs.seat.Seat.put_change.Goals as goal

pub returns-in-Err-Refused : goal.returns-in-Err-Refused
returns-in-Err-Refused g c =
    let seen : Seated = g.G.Occupant.seated c.submit.new.self in
    let error = c.in-Err-Refused.error in
    let is : Submits g.G.Occupant.edits (Err (refusals.Refused error)) c.args.self.now seen c.args.edit =
    subst (λ (old : Seated). Submits g.G.Occupant.edits (Err (refusals.Refused error)) old seen c.args.edit) c.self.view_is (rw c.in-Err-Refused.field-0-is at c.in-Err-Refused.ensures) in
    edit_refused g.B.ReplyWriter.answer_text g.B.ReplyWriter.reply_text c.put_counted.result c.args.self.now c.put_counted.new.self c.args.edit c.args.out.now c.put_counted.new.out
    g.G.Occupant.edits seen error is c.put_counted.ensures.counted c.put_counted.ensures.written

pub returns-in-Err-NotKept : goal.returns-in-Err-NotKept
returns-in-Err-NotKept g c =
    let seen : Seated = g.G.Occupant.seated c.submit.new.self in
    let is : Submits g.G.Occupant.edits (Err refusals.NotKept) c.args.self.now seen c.args.edit =
    subst (λ (old : Seated). Submits g.G.Occupant.edits (Err refusals.NotKept) old seen c.args.edit) c.self.view_is (rw c.in-Err-NotKept.field-0-is at c.in-Err-NotKept.ensures) in
    edit_not_kept g.B.ReplyWriter.answer_text g.B.ReplyWriter.reply_text c.put_counted-in-Err-NotKept.result c.args.self.now c.put_counted-in-Err-NotKept.new.self c.args.edit c.args.out.now c.put_counted-in-Err-NotKept.new.out
    g.G.Occupant.edits seen is c.put_counted-in-Err-NotKept.ensures.counted c.put_counted-in-Err-NotKept.ensures.written
