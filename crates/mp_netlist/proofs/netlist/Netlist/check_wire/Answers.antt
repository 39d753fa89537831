use Rattle.std.proofs.Common.{◌≡◌, None, refl, rules}
use Rattle.mp_netlist.specs.Edits.{wire_refusal}
use Rattle.mp_netlist.proofs.EditLemmas.{IsCircuit-with_new_wire}
use Rattle.mp_netlist.proofs.FoundLemmas.{wire_is_free}
use Rattle.mp_netlist.proofs.netlist.Netlist.check_wire.Goals as goal

pub returns-clause-found : goal.returns-clause-found
returns-clause-found c =
    let n = c.args.self.now in
    let none : wire_refusal n c.args.name.now c.args.width c.args.level ≡ None = search rules in
    record {
      made = refl;
      new = wire_is_free n c.args.name.now c.args.width c.args.level none;
      form = λ ok. IsCircuit-with_new_wire n ok c.args.name.now c.args.width c.args.level none;
    }
