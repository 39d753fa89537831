use Rattle.std.proofs.Common.{◌∷◌}
use Rattle.mp_streams.proofs.OutLemmas.{puts_next, puts_stopped, writes_failed}
use Rattle.mp_text.specs.edit_lines.EditLines.{output_text}
use Rattle.mp_text.proofs.edit_lines.new_ports.NewOutputsText.put_to.Goals as goal

pub returns-in_err-put_to : goal.returns-in_err-put_to
returns-in_err-put_to g c =
    let here = rw (c.word_of-name.ensures, c.output-item.is) at c.in_err-put_to.ensures in
    writes_failed _ c.from_residual.ensures.0
    (puts_stopped (λ output. 32 ∷ output_text output) _ c.loop-output.output-index c.output-item.result c.loop-output-test.true c.loop-output.invariant here)

pub loop-output-preserved : goal.loop-output-preserved
loop-output-preserved g c =
    let here = rw (c.word_of-name.ensures, c.output-item.is) at c.in_ok-put_to.ensures in
    puts_next (λ output. 32 ∷ output_text output) _ c.loop-output.output-index c.output-item.result c.loop-output-test.true c.loop-output.invariant here
