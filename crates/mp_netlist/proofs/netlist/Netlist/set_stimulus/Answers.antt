use Rattle.std.proofs.Common.{option_map, sym, subst}
use Rattle.mp_netlist.specs.Circuit.{IsCircuit, wire_at}
use Rattle.mp_netlist.specs.Edits.{with_wire, with_stimulus}
use Rattle.mp_netlist.proofs.netlist.Netlist.set_stimulus.Goals as goal

pub change_wire-requires : goal.change_wire-requires
change_wire-requires c =
    λ ok.
    let id = c.args.id.0 in
    let n = c.args.self.now in
    subst (λ s. IsCircuit (with_wire n id (option_map (with_stimulus s) (wire_at n id)))) (sym c.in_ok-stimulus.ensures) (c.requires.form ok)
