use Rattle.std.proofs.Common.{◌≡◌, List, ℕ, Option, Some, None, option_map, sym, ap, ◌∙◌, rules}
use Rattle.mp_records.specs.declared.ids.WireId.{WireId}
use Rattle.mp_records.specs.PortChanges.{with_output}
use Rattle.mp_netlist.specs.Circuit.{module_at}
use Rattle.mp_netlist.specs.Edits.{output_refusal, module_id, wire_id, with_module}
use Rattle.mp_netlist.proofs.EditLemmas.{IsCircuit-redirected}
use Rattle.mp_netlist.proofs.FoundLemmas.{module_found, wire_found, same_module}
use Rattle.mp_netlist.proofs.netlist.Netlist.check_output.Goals as goal

pub returns-in_default-wire-clause-found : goal.returns-in_default-wire-clause-found
returns-in_default-wire-clause-found c =
    let n = c.args.self.now in
    let name = c.args.name.now in
    let wire = c.args.wire.now in
    let port = c.args.port in
    let none : output_refusal n name c.args.port c.args.wire.now ≡ None = search rules in
    let unnamed : c.args.wire.now ≡ None = search rules in
    let id = c.in-Some.id in
    record {
      made =
          ap (λ (x : Option (List ℕ)). with_module n id.0 (option_map (with_output port (option_map (wire_id n) x)) (module_at n id.0))) (sym unnamed)
          ∙ same_module n (option_map (with_output port (option_map (wire_id n) wire))) id (module_id n name) (module_found n name id c.in-Some.ensures);
      new = tt;
      form = λ ok. IsCircuit-redirected n ok name port wire none;
    }

pub returns-clause-found : goal.returns-clause-found
returns-clause-found c =
    let n = c.args.self.now in
    let name = c.args.name.now in
    let wire = c.args.wire.now in
    let port = c.args.port in
    let none : output_refusal n name c.args.port c.args.wire.now ≡ None = search rules in
    let named : c.args.wire.now ≡ Some c.get.result.now = search rules in
    let id = c.in-Some.id in
    let driven = wire_found n c.get.result.now c.in-Some-find_wire.driven c.in-Some-find_wire.ensures in
    let ids = ap (λ (w : WireId). Some w) driven ∙ ap (option_map (wire_id n)) (sym named) in
    record {
      made =
          ap (λ (x : Option WireId). with_module n id.0 (option_map (with_output port x) (module_at n id.0))) ids
          ∙ same_module n (option_map (with_output port (option_map (wire_id n) wire))) id (module_id n name) (module_found n name id c.in-Some.ensures);
      new = tt;
      form = λ ok. IsCircuit-redirected n ok name port wire none;
    }
