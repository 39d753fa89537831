use Rattle.std.proofs.Common.{◌≡◌, ◌==◌, ◌++◌, true, false}
use Rattle.std.proofs.lemmas.Bool.{eq-eqb, ne_eqb}
use Rattle.mp_streams.proofs.OutLemmas.{puts_none, puts_sooner, puts_then, writes_failed}
use Rattle.mp_text.specs.Written.{delay_text}
use Rattle.mp_questions.specs.causes.Why.{change_text}
use Rattle.mp_questions.proofs.causes.why.put_event.Goals as goal

pub returns-in_err-put_text : goal.returns-in_err-put_text
returns-in_err-put_text g c = writes_failed _ c.from_residual.ensures.0 (puts_sooner (change_text c.args.netlist.now c.args.event.change ++ delay_text c.args.event.delay) c.in_err-put_text.ensures)

pub returns-in_err-put_change : goal.returns-in_err-put_change
returns-in_err-put_change g c =
    puts_then c.in_ok-put_text.ensures (writes_failed _ c.from_residual-in_err-put_change.ensures.0 (puts_sooner (delay_text c.args.event.delay) c.in_err-put_change.ensures))

pub returns-then-event-eq0 : goal.returns-then-event-eq0
returns-then-event-eq0 g c =
    let none : (c.args.event.delay == 0) ≡ true = eq-eqb c.args.event.delay 0 c.if-event-eq0.true in
    puts_then c.in_ok-put_text.ensures (puts_then c.in_ok-put_change.ensures (rw none (puts_none c.put_change.new.out)))

pub returns : goal.returns
returns g c =
    let some : (c.args.event.delay == 0) ≡ false = ne_eqb c.args.event.delay 0 c.if-event-eq0.false in
    puts_then c.in_ok-put_text.ensures (puts_then c.in_ok-put_change.ensures (rw some c.put_to.ensures))
