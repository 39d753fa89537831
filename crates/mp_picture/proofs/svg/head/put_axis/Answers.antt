use Rattle.std.proofs.Common.{[], ◌∷◌, ◌++◌, codes}
use Rattle.mp_streams.proofs.OutLemmas.{puts_then, puts_sooner, writes_failed}
use Rattle.mp_picture.specs.svg.Heads.{ticks}
use Rattle.mp_picture.proofs.svg.head.put_axis.Goals as goal

pub returns-in_err-put_to : goal.returns-in_err-put_to
returns-in_err-put_to g c =
    let title = rw (c.from-x.ensures, c.as_bytes-bytes.ensures.value) at c.in_err-put_to.ensures in
    writes_failed _ c.from_residual.ensures.0 (puts_sooner (ticks c.args.frame c.args.rows ++ (codes "</g>" ++ 10 ∷ [])) title)

pub returns-in_err-put_ticks : goal.returns-in_err-put_ticks
returns-in_err-put_ticks g c =
    let title = rw (c.from-x.ensures, c.as_bytes-bytes.ensures.value) at c.in_ok-put_to.ensures in
    writes_failed _ c.from_residual-in_err-put_ticks.ensures.0 (puts_then title (puts_sooner (codes "</g>" ++ 10 ∷ []) c.in_err-put_ticks.ensures))

pub returns : goal.returns
returns g c =
    let title = rw (c.from-x.ensures, c.as_bytes-bytes.ensures.value) at c.in_ok-put_to.ensures in
    puts_then title (puts_then c.in_ok-put_ticks.ensures c.put_text.ensures)
