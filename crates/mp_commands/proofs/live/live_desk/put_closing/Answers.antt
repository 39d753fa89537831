use Rattle.std.proofs.Common.{Ok, Err, subst}
use Rattle.std.proofs.lemmas.List.{append-nil}
use Rattle.std.proofs.lemmas.Result.{err_from_is_err_and}
use Rattle.mp_commands.proofs.Names.{puts_then}
use Rattle.mp_streams.specs.Outgoing.{Writes}
use Rattle.mp_commands.specs.Names.{present}
use Rattle.mp_commands.specs.Desks.{outcome_text}
use Rattle.mp_commands.proofs.live.live_desk.put_closing.Goals as goal

pub returns-in_err-put_outcome-clause-ends : goal.returns-in_err-put_outcome-clause-ends
returns-in_err-put_outcome-clause-ends g c =
    let p = err_from_is_err_and c.from_residual.result c.from_residual.ensures.1 in
    rw p.1 (p.2, (c.in_err-put_outcome.field-0.0, c.in_err-put_outcome.ensures.written))

pub returns-in_err-put_outcome-clause-flushed : goal.returns-in_err-put_outcome-clause-flushed
returns-in_err-put_outcome-clause-flushed g c = c.in_err-put_outcome.ensures.written.ends.1

pub returns-in_err-flush-clause-ends : goal.returns-in_err-flush-clause-ends
returns-in_err-flush-clause-ends g c =
    let p = err_from_is_err_and c.from_residual-in_err-flush.result c.from_residual-in_err-flush.ensures.1 in
    let failed = c.in_err-flush.field-0.0 in
    let outcome = c.args.outcome.now in
    let text = outcome_text outcome.tallies.items outcome.numbers.items (present (g.S.EditSession.story outcome.session)) in
    let written = subst (λ written. Writes {T = Unit {0}} (Err failed) c.args.out.now c.flush.new.self written) (append-nil text)
    (puts_then c.in_ok-put_outcome.ensures.written c.in_err-flush.ensures.written) in
    rw p.1 (p.2, (failed, written))

pub returns-clause-ends : goal.returns-clause-ends
returns-clause-ends g c =
    let outcome = c.args.outcome.now in
    let text = outcome_text outcome.tallies.items outcome.numbers.items (present (g.S.EditSession.story outcome.session)) in
    subst (λ written. Writes {T = Unit {0}} (Ok tt) c.args.out.now c.flush.new.self written) (append-nil text) (puts_then c.in_ok-put_outcome.ensures.written c.in_ok-flush.ensures.written)
