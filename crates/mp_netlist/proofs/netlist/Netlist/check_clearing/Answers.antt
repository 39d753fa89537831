use Rattle.std.proofs.Common.{◌≡◌, None, option_map, rules}
use Rattle.mp_netlist.specs.Edits.{clearing_refusal, without_stimulus, wire_id}
use Rattle.mp_netlist.proofs.EditLemmas.{IsCircuit-cleared}
use Rattle.mp_netlist.proofs.FoundLemmas.{wire_found, same_wire}
use Rattle.mp_netlist.proofs.netlist.Netlist.check_clearing.Goals as goal

pub returns-clause-found : goal.returns-clause-found
returns-clause-found c =
    let n = c.args.self.now in
    let name = c.args.wire.now in
    let none : clearing_refusal n name ≡ None = search rules in
    record {
      made = same_wire n (option_map without_stimulus) c.in-Some.id (wire_id n name) (wire_found n name c.in-Some.id c.in-Some.ensures);
      new = tt;
      form = λ ok. IsCircuit-cleared n ok name none;
    }
