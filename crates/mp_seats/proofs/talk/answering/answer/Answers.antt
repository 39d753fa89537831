use Rattle.std.proofs.Common.{ℕ, List, Option, subst}
use Rattle.std.proofs.lemmas.Result.{err_from_is_err_and}
use Rattle.mp_seats.specs.talk.Answers.{PutsAnswer}
use Rattle.mp_seats.proofs.lemmas.talk.AnswerLemmas.{answered, unanswered}
use Rattle.mp_seats.proofs.talk.answering.answer.Goals as goal

pub returns-in_err-flush-clause-written : goal.returns-in_err-flush-clause-written
returns-in_err-flush-clause-written g c =
    let p = err_from_is_err_and c.from_residual.result c.from_residual.ensures.1 in
    let puts =
    subst (λ (line : Option (List ℕ)). PutsAnswer g.A.Answerer.Answers c.put_answer-put.result c.args.who.now c.put_answer-put.new.self line c.args.out.now c.put_answer-put.new.out)
    c.line_of.ensures c.put_answer-put.ensures in
    rw (p.1, p.2) (unanswered g.A.Answerer.Answers c.put_answer-put.result c.args.who.now c.put_answer-put.new.self c.args.lines.now.line c.args.out.now c.put_answer-put.new.out c.flush.new.self
    puts {error = c.in_err-flush.field-0.0} c.in_err-flush.ensures.written)

pub returns-clause-written : goal.returns-clause-written
returns-clause-written g c =
    let puts =
    subst (λ (line : Option (List ℕ)). PutsAnswer g.A.Answerer.Answers c.put_answer-put.result c.args.who.now c.put_answer-put.new.self line c.args.out.now c.put_answer-put.new.out)
    c.line_of.ensures c.put_answer-put.ensures in
    answered g.A.Answerer.Answers c.put_answer-put.result c.args.who.now c.put_answer-put.new.self c.args.lines.now.line c.args.out.now c.put_answer-put.new.out c.flush.new.self
    puts c.in_ok-flush.ensures.written c.in_ok-flush.ensures.empty
