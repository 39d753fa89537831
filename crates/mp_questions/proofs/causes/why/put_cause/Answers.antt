use Rattle.std.proofs.Common.{List, codes, subst}
use Rattle.std.specs.List.{flat_map}
use Rattle.mp_streams.proofs.OutLemmas.{puts_sooner, puts_then, writes_failed}
use Rattle.mp_streams.specs.Outgoing.{Writes}
use Rattle.mp_questions.specs.declared.causes.input_event.InputEvent.{InputEvent}
use Rattle.mp_questions.specs.causes.Why.{event_text}
use Rattle.mp_questions.proofs.causes.why.put_cause.Goals as goal

pub returns-in_err-put_port-in-Start : goal.returns-in_err-put_port-in-Start
returns-in_err-put_port-in-Start g c =
    rw c.in-Start.is (writes_failed _ c.from_residual.ensures.0 (puts_sooner (codes " start") c.in_err-put_port-in-Start.ensures))

pub returns-in_ok-put_port-in-Start : goal.returns-in_ok-put_port-in-Start
returns-in_ok-put_port-in-Start g c = rw c.in-Start.is (puts_then c.in_ok-put_port-in-Start.ensures c.put_text-in-Start.ensures)

pub returns-in_err-put_port-in-Events : goal.returns-in_err-put_port-in-Events
returns-in_err-put_port-in-Events g c =
    rw c.in-Events.is (writes_failed _ c.from_residual-in_err-put_port-in-Events.ensures.0
    (puts_sooner (flat_map (event_text c.args.netlist.now) c.in-Events.events.items) c.in_err-put_port-in-Events.ensures))

pub returns-in_ok-put_port-in-Events : goal.returns-in_ok-put_port-in-Events
returns-in_ok-put_port-in-Events g c =
    rw c.in-Events.is (puts_then c.in_ok-put_port-in-Events.ensures
    (subst (λ (es : List InputEvent). Writes c.put_events.result c.put_port-in-Events.new.out c.put_events.new.out (flat_map (event_text c.args.netlist.now) es)) c.as_slice.ensures.value c.put_events.ensures))
