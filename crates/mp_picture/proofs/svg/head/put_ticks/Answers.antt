use Rattle.std.proofs.Common.{◌≡◌, ◌<◌, arith}
use Rattle.mp_streams.proofs.OutLemmas.{puts_none, writes_failed}
use Rattle.mp_picture.proofs.PutLemmas.{numbers_next, numbers_stopped, numbers_over}
use Rattle.mp_picture.specs.svg.Frames.{tick_count}
use Rattle.mp_picture.specs.svg.Heads.{tick_mark}
use Rattle.mp_picture.proofs.svg.head.put_ticks.Goals as goal

pub loop-number-init : goal.loop-number-init
loop-number-init g c = puts_none c.args.out.now

pub loop-number-preserved : goal.loop-number-preserved
loop-number-preserved g c =
    let i = c.loop-number.number in
    let within : i < tick_count c.args.frame = omega (arith, c.tick_count-number-end.ensures.value, c.loop-number-test.true) in
    numbers_next (tick_mark c.args.frame c.args.rows) (tick_count c.args.frame) i within c.loop-number.invariant c.in_ok-put_tick.ensures

pub returns-in_err-put_tick : goal.returns-in_err-put_tick
returns-in_err-put_tick g c =
    let i = c.loop-number.number in
    let within : i < tick_count c.args.frame = omega (arith, c.tick_count-number-end.ensures.value, c.loop-number-test.true) in
    writes_failed _ c.from_residual.ensures.0
    (numbers_stopped (tick_mark c.args.frame c.args.rows) (tick_count c.args.frame) i within c.loop-number.invariant c.in_err-put_tick.ensures)

pub returns : goal.returns
returns g c =
    let i = c.loop-number.number in
    let over : i ≡ tick_count c.args.frame = omega (arith, c.tick_count-number-end.ensures.value, c.loop-number-test.false) in
    numbers_over (tick_mark c.args.frame c.args.rows) (tick_count c.args.frame) i over c.loop-number.invariant
