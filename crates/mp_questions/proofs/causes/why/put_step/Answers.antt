use Rattle.std.proofs.Common.{[], ◌∷◌, ◌++◌}
use Rattle.mp_streams.proofs.OutLemmas.{puts_sooner, puts_then, writes_failed}
use Rattle.mp_questions.specs.causes.Causes.{cause_of}
use Rattle.mp_questions.specs.causes.Why.{cause_text}
use Rattle.mp_questions.proofs.causes.why.put_step.Goals as goal

pub returns-in_err-put_change : goal.returns-in_err-put_change
returns-in_err-put_change g c =
    writes_failed _ c.from_residual.ensures.0 (puts_sooner (cause_text c.args.netlist.now (cause_of c.args.netlist.now c.args.change) ++ (10 ∷ [])) c.in_err-put_change.ensures)

pub returns-in_err-put_cause : goal.returns-in_err-put_cause
returns-in_err-put_cause g c =
    rw (← c.requires) (puts_then c.in_ok-put_change.ensures (writes_failed _ c.from_residual-in_err-put_cause.ensures.0 (puts_sooner (10 ∷ []) c.in_err-put_cause.ensures)))

pub returns : goal.returns
returns g c = rw (← c.requires) (puts_then c.in_ok-put_change.ensures (puts_then c.in_ok-put_cause.ensures c.put_text.ensures))
