use Rattle.mp_streams.proofs.OutLemmas.{puts_next, puts_stopped, writes_failed}
use Rattle.mp_questions.specs.declared.causes.input_event.InputEvent.{InputEvent}
use Rattle.mp_questions.specs.causes.Why.{event_text}
use Rattle.mp_questions.proofs.causes.why.put_events.Goals as goal

abbrev none : InputEvent
none = record { change = record { wire = record { 0 = 0 }; time = 0; level = 0 }; delay = 0 }

pub returns-in_err-put_event : goal.returns-in_err-put_event
returns-in_err-put_event g c =
    writes_failed _ c.from_residual.ensures.0
    (puts_stopped (event_text c.args.netlist.now) _ c.loop-event.event-index none c.loop-event-test.true c.loop-event.invariant c.in_err-put_event.ensures)

pub loop-event-preserved : goal.loop-event-preserved
loop-event-preserved g c =
    puts_next (event_text c.args.netlist.now) _ c.loop-event.event-index none c.loop-event-test.true c.loop-event.invariant c.in_ok-put_event.ensures
