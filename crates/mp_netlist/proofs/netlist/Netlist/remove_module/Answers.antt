use Rattle.std.proofs.Common.{None, sym, subst}
use Rattle.mp_netlist.specs.Circuit.{Circuit, IsCircuit}
use Rattle.mp_netlist.specs.Edits.{with_module}
use Rattle.mp_netlist.specs.Records.{circuit_of}
use Rattle.mp_records.proofs.lemmas.lists.CutLemmas.{in_either}
use Rattle.mp_netlist.proofs.netlist.Netlist.remove_module.Goals as goal

pub invariant_of-self : goal.invariant_of-self
invariant_of-self c =
    let n = circuit_of c.self.inside in
    let fits = subst (λ (m : Circuit). IsCircuit m → IsCircuit (with_module m c.args.id.0 None)) (sym c.self.view_is) c.requires c.self.invariant.circuit in
    record {
      circuit = in_either c.remove.result (λ is. subst (λ slots. IsCircuit (record n { modules = slots })) (sym is) fits) (λ is. subst (λ slots. IsCircuit (record n { modules = slots })) (sym is) c.self.invariant.circuit)
          c.remove.ensures.ok c.remove.ensures.err;
    }
