use Rattle.std.proofs.Common.{option_map, sym, subst}
use Rattle.mp_netlist.specs.Circuit.{Circuit, IsCircuit, module_at}
use Rattle.mp_netlist.specs.Edits.{with_module}
use Rattle.mp_netlist.specs.Records.{circuit_of}
use Rattle.mp_records.proofs.lemmas.lists.CutLemmas.{in_either}
use Rattle.mp_netlist.proofs.netlist.Netlist.change_module.Goals as goal

pub invariant_of-self : goal.invariant_of-self
invariant_of-self g c =
    let n = circuit_of c.self.inside in
    let changed = g.C.Change.changed c.args.change in
    let fits = subst (λ (m : Circuit). IsCircuit m → IsCircuit (with_module m c.args.id.0 (option_map changed (module_at m c.args.id.0)))) (sym c.self.view_is) c.requires c.self.invariant.circuit in
    record {
      circuit = in_either c.change.result (λ is. subst (λ slots. IsCircuit (record n { modules = slots })) (sym is) fits) (λ is. subst (λ slots. IsCircuit (record n { modules = slots })) (sym is) c.self.invariant.circuit)
          c.change.ensures.ok c.change.ensures.err;
    }
