use Rattle.std.proofs.Common.{sym, arith}
use Rattle.mp_check.proofs.PortLemmas.{number_low, slots_few}
use Rattle.mp_check.proofs.module_end.port_number.Goals as goal

pub overflow_mul-result : goal.overflow_mul-result
overflow_mul-result c =
    let n = c.args.end.now.at.netlist.now in
    let low = number_low n c.horizon-horizon.ensures.form c.args.wire.0 c.args.id c.args.output (sym c.requires) in
    let few = slots_few n c.horizon-horizon.ensures.form in
    omega (arith, low, few)

pub overflow_add-result : goal.overflow_add-result
overflow_add-result c =
    let n = c.args.end.now.at.netlist.now in
    let low = number_low n c.horizon-horizon.ensures.form c.args.wire.0 c.args.id c.args.output (sym c.requires) in
    let few = slots_few n c.horizon-horizon.ensures.form in
    omega (arith, low, few)

pub returns-clause-within : goal.returns-clause-within
returns-clause-within c = number_low c.args.end.now.at.netlist.now c.horizon-horizon.ensures.form c.args.wire.0 c.args.id c.args.output (sym c.requires)
