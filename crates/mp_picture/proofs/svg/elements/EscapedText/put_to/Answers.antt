use Rattle.mp_streams.proofs.OutLemmas.{puts_next, puts_stopped, writes_failed}
use Rattle.mp_picture.specs.svg.Elements.{escaped_byte}
use Rattle.mp_picture.proofs.svg.elements.EscapedText.put_to.Goals as goal

pub returns-in_err-put_escaped : goal.returns-in_err-put_escaped
returns-in_err-put_escaped g c =
    writes_failed _ c.from_residual.ensures.0 (puts_stopped escaped_byte _ c.loop-byte.byte-index 0 c.loop-byte-test.true c.loop-byte.invariant c.in_err-put_escaped.ensures)

pub loop-byte-preserved : goal.loop-byte-preserved
loop-byte-preserved g c = puts_next escaped_byte _ c.loop-byte.byte-index 0 c.loop-byte-test.true c.loop-byte.invariant c.in_ok-put_escaped.ensures
