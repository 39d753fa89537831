use Rattle.std.proofs.Common.{◌++◌}
use Rattle.mp_streams.proofs.OutLemmas.{puts_then, puts_sooner, writes_failed}
use Rattle.mp_picture.specs.svg.Styles.{style}
use Rattle.mp_picture.specs.svg.Heads.{axis}
use Rattle.mp_picture.proofs.svg.head.put_head.Goals as goal

pub returns-in_err-put_root : goal.returns-in_err-put_root
returns-in_err-put_root g c = writes_failed _ c.from_residual.ensures.0 (puts_sooner (style ++ axis c.args.frame c.args.rows c.args.title.now) c.in_err-put_root.ensures)

pub returns-in_err-put_style : goal.returns-in_err-put_style
returns-in_err-put_style g c =
    writes_failed _ c.from_residual-in_err-put_style.ensures.0
    (puts_then c.in_ok-put_root.ensures (puts_sooner (axis c.args.frame c.args.rows c.args.title.now) c.in_err-put_style.ensures))

pub returns : goal.returns
returns g c = puts_then c.in_ok-put_root.ensures (puts_then c.in_ok-put_style.ensures c.put_axis.ensures)
