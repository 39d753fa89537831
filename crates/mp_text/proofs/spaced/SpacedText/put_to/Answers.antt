use Rattle.mp_text.proofs.Names.{◌∷◌, puts_next, puts_stopped, writes_failed}
use Rattle.mp_text.proofs.spaced.SpacedText.put_to.Goals as goal

pub returns-in_err-put_to : goal.returns-in_err-put_to
returns-in_err-put_to g c =
    writes_failed _ c.from_residual.ensures.0
    (puts_stopped (λ item. 32 ∷ g.T.Text.text item) _ c.loop-item.item-index c.item-item.result c.loop-item-test.true c.loop-item.invariant (rw c.item-item.is at c.in_err-put_to.ensures))

pub loop-item-preserved : goal.loop-item-preserved
loop-item-preserved g c =
    puts_next (λ item. 32 ∷ g.T.Text.text item) _ c.loop-item.item-index c.item-item.result c.loop-item-test.true c.loop-item.invariant (rw c.item-item.is at c.in_ok-put_to.ensures)
