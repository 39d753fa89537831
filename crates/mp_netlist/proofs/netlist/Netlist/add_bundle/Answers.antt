use Rattle.mp_netlist.proofs.netlist.Netlist.add_bundle.Goals as goal

pub put_bundle-requires-clause-fits : goal.put_bundle-requires-clause-fits
put_bundle-requires-clause-fits c = λ ok. rw c.in_ok-clone.ensures.cases (c.requires.form ok)
