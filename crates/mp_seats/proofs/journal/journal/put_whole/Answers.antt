use Rattle.std.proofs.Common.{◌++◌, ◌∷◌, [], Ok, Err, subst}
use Rattle.std.proofs.lemmas.List.{append-nil}
use Rattle.mp_text.specs.edit_lines.EditLines.{edit_text}
use Rattle.mp_streams.specs.Outgoing.{Writes}
use Rattle.mp_streams.proofs.OutLemmas.{puts_then, writes_failed}
use Rattle.mp_seats.proofs.journal.journal.put_whole.Goals as goal

pub returns-in_err-flush-clause-written : goal.returns-in_err-flush-clause-written
returns-in_err-flush-clause-written g c =
    let r = c.from_residual-in_err-flush in
    writes_failed r.result r.ensures.0
    (subst (Writes {T = Unit {0}} (Err c.in_err-flush.field-0.0) c.args.out.now c.flush.new.self) (append-nil (edit_text c.args.edit.now ++ 10 ∷ [])) (puts_then c.in_ok-put_to.ensures c.in_err-flush.ensures.written))

pub returns-clause-written : goal.returns-clause-written
returns-clause-written g c =
    subst (Writes {T = Unit {0}} (Ok tt) c.args.out.now c.flush.new.self) (append-nil (edit_text c.args.edit.now ++ 10 ∷ [])) (puts_then c.in_ok-put_to.ensures c.in_ok-flush.ensures.written)
