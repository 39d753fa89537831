use Rattle.std.proofs.Common.{◌∷◌}
use Rattle.mp_streams.proofs.OutLemmas.{puts_next, puts_stopped, writes_failed}
use Rattle.mp_text.specs.edit_lines.EditLines.{input_text}
use Rattle.mp_text.proofs.edit_lines.new_ports.NewInputsText.put_to.Goals as goal

pub returns-in_err-put_input : goal.returns-in_err-put_input
returns-in_err-put_input g c =
    let here = rw (c.input-item.is) at c.in_err-put_input.ensures in
    writes_failed _ c.from_residual.ensures.0
    (puts_stopped (λ input. 32 ∷ input_text input) _ c.loop-input.input-index c.input-item.result c.loop-input-test.true c.loop-input.invariant here)

pub loop-input-preserved : goal.loop-input-preserved
loop-input-preserved g c =
    let here = rw (c.input-item.is) at c.in_ok-put_input.ensures in
    puts_next (λ input. 32 ∷ input_text input) _ c.loop-input.input-index c.input-item.result c.loop-input-test.true c.loop-input.invariant here
