use Rattle.std.proofs.Common.{◌≡◌, None, option_map, ap, ◌∙◌, rules}
use Rattle.mp_records.specs.declared.ids.WireId.{WireId}
use Rattle.mp_records.specs.PortChanges.{with_input}
use Rattle.mp_netlist.specs.Circuit.{module_at}
use Rattle.mp_netlist.specs.Edits.{input_refusal, module_id, wire_id, with_module}
use Rattle.mp_netlist.proofs.EditLemmas.{IsCircuit-reread}
use Rattle.mp_netlist.proofs.FoundLemmas.{module_found, wire_found, same_module}
use Rattle.mp_netlist.proofs.netlist.Netlist.check_input.Goals as goal

pub returns-clause-found : goal.returns-clause-found
returns-clause-found c =
    let n = c.args.self.now in
    let name = c.args.name.now in
    let wire = c.args.wire.now in
    let none : input_refusal n name c.args.port wire ≡ None = search rules in
    let id = c.in-Some.id in
    let read = wire_found n wire c.in-Some-find_wire.read c.in-Some-find_wire.ensures in
    record {
      made =
          ap (λ (w : WireId). with_module n id.0 (option_map (with_input c.args.port w) (module_at n id.0))) read
          ∙ same_module n (option_map (with_input c.args.port (wire_id n wire))) id (module_id n name) (module_found n name id c.in-Some.ensures);
      new = tt;
      form = λ ok. IsCircuit-reread n ok name c.args.port wire none;
    }
