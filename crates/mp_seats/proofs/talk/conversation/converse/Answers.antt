use Rattle.std.proofs.Common.{Ok, refl, subst, ◌∙◌}
use Rattle.std.proofs.lemmas.Result.{err_from_is_err_and}
use Rattle.mp_text.specs.lines.Incoming.{ReadsLine}
use Rattle.mp_seats.proofs.lemmas.talk.TalkLemmas.{begins, answered, stopped, broken, unread_faults}
use Rattle.mp_seats.proofs.talk.conversation.converse.Goals as goal

pub loop-init : goal.loop-init
loop-init g c = (tt, tt, begins g.A.Answerer.Answers c.args.lines.now c.args.who.now c.args.out.now, c.requires, refl)

pub loop-preserved : goal.loop-preserved
loop-preserved g c =
    let read = subst (λ has_line. ReadsLine (Ok has_line) c.loop.lines c.read.new.self) c.in-Ok-true.field-0-test c.in-Ok-true.ensures.read in
    let talk = answered g.A.Answerer.Answers c.args.lines.now c.loop.lines c.read.new.self c.args.who.now c.loop.who c.args.out.now c.loop.out c.loop.invariant.2 read in
    (tt, tt, talk c.answer.new.who c.answer.new.out c.in_ok-answer-in-Ok-true.ensures.written, c.in_ok-answer-in-Ok-true.ensures.flushed, c.in-Ok-true.ensures.faults ∙ c.loop.invariant.4)

pub returns-in_err-answer-in-Ok-true-clause-conversed : goal.returns-in_err-answer-in-Ok-true-clause-conversed
returns-in_err-answer-in-Ok-true-clause-conversed g c =
    let read = subst (λ has_line. ReadsLine (Ok has_line) c.loop.lines c.read.new.self) c.in-Ok-true.field-0-test c.in-Ok-true.ensures.read in
    let p = err_from_is_err_and c.from_residual.result c.from_residual.ensures.1 in
    rw (p.1, p.2) (stopped g.A.Answerer.Answers c.args.lines.now c.loop.lines c.read.new.self c.args.who.now c.loop.who c.args.out.now c.loop.out c.loop.invariant.2 read
    c.answer.new.who c.answer.new.out c.in_err-answer-in-Ok-true.field-0.0 c.in_err-answer-in-Ok-true.ensures.written)

pub returns-in-Err-clause-conversed : goal.returns-in-Err-clause-conversed
returns-in-Err-clause-conversed g c =
    broken g.A.Answerer.Answers c.args.lines.now c.loop.lines c.read.new.self c.args.who.now c.loop.who c.args.out.now c.loop.out c.loop.invariant.2 {error = c.in-Err.field-0} c.in-Err.ensures.read

pub returns-in_err-answer-in-Ok-true-clause-read_faults : goal.returns-in_err-answer-in-Ok-true-clause-read_faults
returns-in_err-answer-in-Ok-true-clause-read_faults g c =
    let p = err_from_is_err_and c.from_residual.result c.from_residual.ensures.1 in
    rw (p.1, p.2) (c.in-Ok-true.ensures.faults ∙ c.loop.invariant.4 ∙ unread_faults c.in_err-answer-in-Ok-true.field-0.0 c.args.lines.now.faults)
