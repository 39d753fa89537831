use Rattle.mp_streams.proofs.OutLemmas.{puts_then, puts_sooner, writes_failed}
use Rattle.mp_picture.specs.svg.Lanes.{bottom}
use Rattle.mp_picture.specs.svg.Columns.{word_line}
use Rattle.mp_picture.proofs.svg.drawn.put_lines.Goals as goal

pub returns-in_err-put_line : goal.returns-in_err-put_line
returns-in_err-put_line g c =
    let a = c.args in
    let line = rw c.top.ensures at c.in_err-put_line.ensures in
    writes_failed _ c.from_residual.ensures.0 (puts_sooner (word_line a.lane a.column (bottom a.lane) a.ends.0 a.ends.1) line)

pub returns : goal.returns
returns g c =
    let first = rw c.top.ensures at c.in_ok-put_line.ensures in
    let second = rw c.bottom.ensures at c.put_line-2.ensures in
    puts_then first second
