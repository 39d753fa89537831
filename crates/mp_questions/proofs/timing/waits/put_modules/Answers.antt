use Rattle.std.proofs.Common.{◌≡◌, ◌<◌, length, arith}
use Rattle.mp_streams.proofs.OutLemmas.{puts_none, writes_failed}
use Rattle.mp_questions.specs.timing.Waits.{module_wait}
use Rattle.mp_questions.proofs.lemmas.timing.PutLemmas.{numbers_next, numbers_stopped, numbers_over}
use Rattle.mp_questions.proofs.timing.waits.put_modules.Goals as goal

pub loop-number-init : goal.loop-number-init
loop-number-init g c = puts_none c.args.out.now

pub loop-number-preserved : goal.loop-number-preserved
loop-number-preserved g c =
    let at = c.args.at.now in
    let k = c.loop-number.number in
    let within : k < length at.netlist.now.modules = omega (arith, c.module_slots-number-end.ensures.value) in
    numbers_next (module_wait at.netlist.now at.time) (length at.netlist.now.modules) k within c.loop-number.invariant c.in_ok-put_module.ensures

pub returns-in_err-put_module : goal.returns-in_err-put_module
returns-in_err-put_module g c =
    let at = c.args.at.now in
    let k = c.loop-number.number in
    let within : k < length at.netlist.now.modules = omega (arith, c.module_slots-number-end.ensures.value) in
    writes_failed _ c.from_residual.ensures.0 (numbers_stopped (module_wait at.netlist.now at.time) (length at.netlist.now.modules) k within c.loop-number.invariant c.in_err-put_module.ensures)

pub returns : goal.returns
returns g c =
    let at = c.args.at.now in
    let k = c.loop-number.number in
    let over : k ≡ length at.netlist.now.modules = omega (arith, c.module_slots-number-end.ensures.value) in
    numbers_over (module_wait at.netlist.now at.time) (length at.netlist.now.modules) k over c.loop-number.invariant
