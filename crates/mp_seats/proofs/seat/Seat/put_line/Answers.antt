use Rattle.std.proofs.Common.{rules, ◌≡◌, Ok, refl}
use Rattle.mp_text.specs.ScriptLines.{line_at}
use Rattle.mp_text.specs.declared.script_line.Line.TheVariants.{Empty}
use Rattle.mp_streams.proofs.OutLemmas.{puts_none}
use Rattle.mp_seats.proofs.StepLemmas.{line_empty, too_wide}
use Rattle.mp_seats.proofs.seat.Seat.put_line.Goals as goal

pub returns-in-Ok-Empty : goal.returns-in-Ok-Empty
returns-in-Ok-Empty g c =
    let is : line_at c.args.line.now ≡ Ok Empty = search rules in
    line_empty g.B.ReplyWriter.answer_text g.B.ReplyWriter.reply_text g.G.Occupant.edits (Ok tt) c.args.self.now c.args.self.now c.args.out.now c.args.out.now c.args.line.now is refl
    (puts_none c.args.out.now)

pub returns-then-is_wide : goal.returns-then-is_wide
returns-then-is_wide g c =
    too_wide g.B.ReplyWriter.answer_text g.B.ReplyWriter.reply_text g.G.Occupant.edits c.put_counted.result c.args.self.now c.put_counted.new.self c.args.out.now c.put_counted.new.out c.args.line.now (search rules)
    c.put_counted.ensures.counted c.put_counted.ensures.written
