use Rattle.std.proofs.Common.{◌≡◌, subst}
use mathlib.Core.List.{IsPrefix}
use Rattle.std.specs.Arc.{arc_value}
use Rattle.mp_version.specs.Extending.{Extends}
use Rattle.mp_seats.specs.Steps.{Seated, with_seen, with_read}
use Rattle.mp_seats.proofs.StepLemmas.{asked_answered, asked_refused}
use Rattle.mp_seats.proofs.seat.Seat.put_asked.Goals as goal

pub returns-in_default : goal.returns-in_default
returns-in_default g c =
    let seen : Seated = g.G.Occupant.seated c.read.new.self in
    let same : seen ≡ with_seen c.args.self.now c.args.self.now.seen c.args.self.now.signed seen.reads =
    subst (λ (old : Seated). seen ≡ with_seen old old.seen old.signed seen.reads) c.self.view_is c.in_default.ensures.err in
    asked_refused g.B.ReplyWriter.answer_text g.B.ReplyWriter.reply_text g.G.Occupant.edits c.put_counted.result c.args.self.now c.put_counted.new.self c.args.question.now c.args.out.now c.put_counted.new.out
    seen same c.put_counted.ensures.counted c.put_counted.ensures.written

pub returns : goal.returns
returns g c =
    let seen : Seated = g.G.Occupant.seated c.read.new.self in
    let version = arc_value c.in-Ok.read.version in
    let authors = c.in-Ok.read.authors in
    let same : seen ≡ with_read c.args.self.now version authors = subst (λ (old : Seated). seen ≡ with_read old version authors) c.self.view_is c.in-Ok.ensures.seen in
    let later : Extends version c.args.self.now.seen = subst (λ (old : Seated). Extends version old.seen) c.self.view_is c.in-Ok.ensures.later in
    let begins : IsPrefix c.args.self.now.signed authors = subst (λ (old : Seated). IsPrefix old.signed authors) c.self.view_is c.in-Ok.ensures.authors in
    asked_answered g.B.ReplyWriter.answer_text g.B.ReplyWriter.reply_text g.G.Occupant.edits c.put_read.result c.args.self.now seen c.args.question.now c.args.out.now c.put_read.new.out version authors same later
    begins c.in-Ok.ensures.each c.put_read.ensures
