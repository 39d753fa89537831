use Rattle.mp_streams.proofs.OutLemmas.{puts_next, puts_stopped, writes_failed}
use Rattle.mp_records.specs.Inputs.{no_input}
use Rattle.mp_records.specs.declared.ports.Input.{Input}
use Rattle.mp_picture.specs.svg.FoundGroups.{lead_to}
use Rattle.mp_picture.proofs.svg.leads.put_input_leads.Goals as goal

pub returns-in_err-put_to : goal.returns-in_err-put_to
returns-in_err-put_to g c =
    let s = c.args.start in
    writes_failed _ c.from_residual.ensures.0
    (puts_stopped (λ (input : Input). lead_to s.frame s.wires.now s.x s.y input.wire) _ c.loop-input.input-index no_input c.loop-input-test.true c.loop-input.invariant c.in_err-put_to.ensures)

pub loop-input-preserved : goal.loop-input-preserved
loop-input-preserved g c =
    let s = c.args.start in
    puts_next (λ (input : Input). lead_to s.frame s.wires.now s.x s.y input.wire) _ c.loop-input.input-index no_input c.loop-input-test.true c.loop-input.invariant c.in_ok-put_to.ensures
