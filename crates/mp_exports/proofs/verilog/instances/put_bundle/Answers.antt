use Rattle.mp_exports.proofs.verilog.instances.put_bundle.Goals as goal

pub returns : goal.returns
returns g c = rw c.as_str-name.ensures at c.put_to.ensures
