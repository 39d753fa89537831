use Rattle.mp_exports.proofs.verilog.instances.ValuesText.put_to.Goals as goal

pub returns : goal.returns
returns g c = rw (c.output_count.ensures, c.param_count.ensures) at c.put_to.ensures
