use Rattle.mp_netlist.proofs.netlist.Netlist.copy_module.Goals as goal

pub put_module-requires-clause-fits : goal.put_module-requires-clause-fits
put_module-requires-clause-fits c = λ ok. rw (c.in_ok-clone.ensures.cases, c.in_ok-clone-2.ensures.cases) (c.requires.form ok)
