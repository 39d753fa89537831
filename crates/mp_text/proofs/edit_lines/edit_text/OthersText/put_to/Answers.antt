use Rattle.mp_streams.proofs.OutLemmas.{puts_next, puts_stopped, writes_failed}
use Rattle.mp_text.specs.edit_lines.EditLines.{behind_text}
use Rattle.mp_text.proofs.edit_lines.edit_text.OthersText.put_to.Goals as goal

pub returns-in_err-put_to : goal.returns-in_err-put_to
returns-in_err-put_to g c =
    let here = rw (c.edit-item.is) at c.in_err-put_to.ensures in
    writes_failed _ c.from_residual.ensures.0
    (puts_stopped behind_text _ c.loop-edit.edit-index c.edit-item.result c.loop-edit-test.true c.loop-edit.invariant here)

pub loop-edit-preserved : goal.loop-edit-preserved
loop-edit-preserved g c =
    let here = rw (c.edit-item.is) at c.in_ok-put_to.ensures in
    puts_next behind_text _ c.loop-edit.edit-index c.edit-item.result c.loop-edit-test.true c.loop-edit.invariant here
