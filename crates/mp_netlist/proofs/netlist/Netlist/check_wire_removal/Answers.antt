use Rattle.std.proofs.Common.{◌≡◌, None, ap, rules}
use Rattle.mp_records.specs.declared.ids.WireId.{WireId}
use Rattle.mp_netlist.specs.Edits.{wire_removal_refusal, with_wire}
use Rattle.mp_netlist.proofs.EditLemmas.{IsCircuit-without_wire}
use Rattle.mp_netlist.proofs.FoundLemmas.{wire_found}
use Rattle.mp_netlist.proofs.netlist.Netlist.check_wire_removal.Goals as goal

pub returns-clause-found : goal.returns-clause-found
returns-clause-found c =
    let n = c.args.self.now in
    let name = c.args.name.now in
    let none : wire_removal_refusal n name ≡ None = search rules in
    record {
      made = ap (λ (w : WireId). with_wire n w.0 None) (wire_found n name c.in-Some.id c.in-Some.ensures);
      new = tt;
      form = λ ok. IsCircuit-without_wire n ok name none;
    }
