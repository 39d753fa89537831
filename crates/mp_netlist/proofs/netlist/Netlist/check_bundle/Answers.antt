use Rattle.std.proofs.Common.{◌≡◌, None, refl, rules}
use Rattle.mp_netlist.specs.Edits.{bundle_refusal}
use Rattle.mp_netlist.proofs.EditLemmas.{IsCircuit-with_new_bundle}
use Rattle.mp_netlist.proofs.FoundLemmas.{bundle_is_free, wire_found}
use Rattle.mp_netlist.proofs.netlist.Netlist.check_bundle.Goals as goal

pub returns-clause-found : goal.returns-clause-found
returns-clause-found c =
    let n = c.args.self.now in
    let new = c.args.new.now in
    let none : bundle_refusal n new ≡ None = search rules in
    let wires = c.in-Some.wires in
    let found = c.in-Some.ensures.wires in
    record {
      made = rw (wire_found n new.request wires.0 found.0, wire_found n new.acknowledge wires.1 found.1, wire_found n new.payload wires.2 found.2) refl;
      new = bundle_is_free n new none;
      form = λ ok. IsCircuit-with_new_bundle n ok new none;
    }
