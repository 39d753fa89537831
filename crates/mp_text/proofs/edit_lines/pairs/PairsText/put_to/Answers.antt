use Rattle.mp_streams.proofs.OutLemmas.{puts_next, puts_stopped, writes_failed}
use Rattle.mp_text.specs.lexing.WaveLines.{change_text}
use Rattle.mp_text.proofs.edit_lines.pairs.PairsText.put_to.Goals as goal

pub returns-in_err-put_to : goal.returns-in_err-put_to
returns-in_err-put_to g c =
    writes_failed _ c.from_residual.ensures.0 (puts_stopped change_text _ c.loop-pair.pair-index _ c.loop-pair-test.true c.loop-pair.invariant c.in_err-put_to.ensures)

pub loop-pair-preserved : goal.loop-pair-preserved
loop-pair-preserved g c = puts_next change_text _ c.loop-pair.pair-index _ c.loop-pair-test.true c.loop-pair.invariant c.in_ok-put_to.ensures
