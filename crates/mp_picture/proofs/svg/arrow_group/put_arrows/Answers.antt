use Rattle.mp_streams.proofs.OutLemmas.{puts_next, puts_stopped, writes_failed}
use Rattle.mp_picture.specs.declared.svg.arrow.Arrow.{Arrow}
use Rattle.mp_picture.specs.svg.Arrows.{arrow_text}
use Rattle.mp_picture.proofs.svg.arrow_group.put_arrows.Goals as goal

abbrev none : Arrow
none = record { from = record { wire = record { 0 = 0 }; time = 0 }; to = record { wire = record { 0 = 0 }; time = 0 } }

pub loop-arrow-preserved : goal.loop-arrow-preserved
loop-arrow-preserved g c = puts_next (arrow_text c.args.frame c.args.wires.now) _ c.loop-arrow.arrow-index none c.loop-arrow-test.true c.loop-arrow.invariant c.in_ok-put_arrow.ensures

pub returns-in_err-put_arrow : goal.returns-in_err-put_arrow
returns-in_err-put_arrow g c =
    writes_failed _ c.from_residual.ensures.0
    (puts_stopped (arrow_text c.args.frame c.args.wires.now) _ c.loop-arrow.arrow-index none c.loop-arrow-test.true c.loop-arrow.invariant c.in_err-put_arrow.ensures)
