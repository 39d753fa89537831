use Rattle.mp_exports.specs.verilog.Verilog.{netlist_text}
use Rattle.mp_exports.proofs.verilog.netlist_module.NetlistModuleText.put_to.Goals as goal

pub returns : goal.returns
unfolding netlist_text
returns g c = rw (c.wire_slots.ensures.value, c.module_slots.ensures.value, c.bundle_slots.ensures.value) at c.put_to.ensures
