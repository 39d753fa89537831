use Rattle.mp_streams.proofs.OutLemmas.{puts_then, puts_sooner, writes_failed}
use Rattle.mp_picture.specs.svg.Columns.{line_end}
use Rattle.mp_picture.proofs.svg.drawn.put_line.Goals as goal

pub returns-in_err-put_line_start : goal.returns-in_err-put_line_start
returns-in_err-put_line_start g c =
    writes_failed _ c.from_residual.ensures.0 (puts_sooner (line_end c.args.lane c.args.column c.args.y c.args.ends.1) c.in_err-put_line_start.ensures)

pub returns : goal.returns
returns g c = puts_then c.in_ok-put_line_start.ensures c.put_line_end.ensures
