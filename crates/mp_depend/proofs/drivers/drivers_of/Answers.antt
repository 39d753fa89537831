use Rattle.std.proofs.Common.{arith}
use Rattle.mp_depend.proofs.DriverLemmas.{drivers_are}
use Rattle.mp_depend.proofs.drivers.drivers_of.Goals as goal

pub returns : goal.returns
returns c = drivers_are c.args.netlist.now c.horizon-horizon.ensures.form c.loop-m.m c.loop-m.drivers.items (omega (arith, c.module_slots-m-end.ensures.value)) c.loop-m.invariant
