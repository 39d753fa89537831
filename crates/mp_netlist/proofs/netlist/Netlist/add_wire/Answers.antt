use Rattle.std.proofs.Common.{sym, subst}
use Rattle.mp_netlist.specs.Circuit.{IsCircuit}
use Rattle.mp_netlist.specs.Edits.{with_new_wire}
use Rattle.mp_netlist.proofs.netlist.Netlist.add_wire.Goals as goal

pub put_wire-requires-clause-fits : goal.put_wire-requires-clause-fits
put_wire-requires-clause-fits c =
    λ ok.
    subst (λ name. IsCircuit (with_new_wire c.args.self.now name c.args.width c.args.level)) (sym c.in_ok-clone.ensures.cases) (c.requires.form ok)
