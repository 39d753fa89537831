use Rattle.std.proofs.Common.{◌≡◌, ◌<◌, length, rules}
use Rattle.mp_streams.proofs.OutLemmas.{puts_none, writes_failed}
use Rattle.mp_picture.proofs.PutLemmas.{numbers_next, numbers_stopped, numbers_over}
use Rattle.mp_picture.specs.svg.Columns.{column_text}
use Rattle.mp_picture.proofs.svg.drawn.DrawnText.put_to.Goals as goal

pub loop-column-init : goal.loop-column-init
loop-column-init g c = puts_none c.args.out.now

pub loop-column-preserved : goal.loop-column-preserved
loop-column-preserved g c =
    let self = c.args.self.now in
    let j = c.loop-column.column in
    let within : j < length self.cells.now = search rules in
    numbers_next (column_text self.lane self.cells.now self.drawing) (length self.cells.now) j within c.loop-column.invariant c.in_ok-put_column.ensures

pub returns-in_err-put_column : goal.returns-in_err-put_column
returns-in_err-put_column g c =
    let self = c.args.self.now in
    let j = c.loop-column.column in
    let within : j < length self.cells.now = search rules in
    writes_failed _ c.from_residual.ensures.0
    (numbers_stopped (column_text self.lane self.cells.now self.drawing) (length self.cells.now) j within c.loop-column.invariant c.in_err-put_column.ensures)

pub returns : goal.returns
returns g c =
    let self = c.args.self.now in
    let j = c.loop-column.column in
    let over : j ≡ length self.cells.now = search rules in
    numbers_over (column_text self.lane self.cells.now self.drawing) (length self.cells.now) j over c.loop-column.invariant
