use Rattle.std.proofs.Common.{◌≡◌, ◌<◌, ◌∷◌, [], length, rules}
use Rattle.mp_streams.proofs.OutLemmas.{puts_none, writes_failed}
use Rattle.mp_picture.proofs.PutLemmas.{numbers_next, numbers_stopped, numbers_over}
use Rattle.mp_picture.specs.wave_json.Signals.{value_item}
use Rattle.mp_picture.proofs.wave_json.wave_values.WaveValuesText.put_to.Goals as goal

pub loop-column-init : goal.loop-column-init
loop-column-init g c = puts_none c.args.out.now

pub loop-column-preserved : goal.loop-column-preserved
loop-column-preserved g c =
    let self = c.args.self.now in
    let j = c.loop-column.column in
    let within : j < length self.cells.now = search rules in
    numbers_next (value_item self.numerals self.cells.now) (length self.cells.now) j within c.loop-column.invariant c.in_ok-put_value.ensures

pub returns-in_err-put_value : goal.returns-in_err-put_value
returns-in_err-put_value g c =
    let self = c.args.self.now in
    let j = c.loop-column.column in
    let within : j < length self.cells.now = search rules in
    writes_failed _ c.from_residual.ensures.0 (numbers_stopped (value_item self.numerals self.cells.now) (length self.cells.now) j within c.loop-column.invariant c.in_err-put_value.ensures)

pub returns : goal.returns
returns g c =
    let self = c.args.self.now in
    let j = c.loop-column.column in
    let over : j ≡ length self.cells.now = search rules in
    numbers_over (value_item self.numerals self.cells.now) (length self.cells.now) j over c.loop-column.invariant
