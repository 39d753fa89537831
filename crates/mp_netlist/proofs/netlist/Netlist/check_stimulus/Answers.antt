use Rattle.std.proofs.Common.{◌≡◌, None, option_map, subst, rules}
use Rattle.mp_netlist.specs.Circuit.{IsCircuit}
use Rattle.mp_netlist.specs.Edits.{stimulus_refusal, with_stimulus, wire_id}
use Rattle.mp_netlist.proofs.EditLemmas.{stimulus_early, IsCircuit-stimulated}
use Rattle.mp_netlist.proofs.FoundLemmas.{wire_found, same_wire}
use Rattle.mp_netlist.proofs.netlist.Netlist.check_stimulus.Goals as goal

pub returns-clause-found : goal.returns-clause-found
returns-clause-found c =
    let n = c.args.self.now in
    let name = c.args.wire.now in
    let changes = c.args.changes.now in
    let none : stimulus_refusal n name changes ≡ None = search rules in
    let is = subst IsCircuit c.self.view_is c.self.invariant.circuit in
    record {
      made = same_wire n (option_map (with_stimulus changes)) c.in-Some.id (wire_id n name) (wire_found n name c.in-Some.id c.in-Some.ensures);
      new = stimulus_early n is name changes none;
      form = λ ok. IsCircuit-stimulated n ok name changes none;
    }
