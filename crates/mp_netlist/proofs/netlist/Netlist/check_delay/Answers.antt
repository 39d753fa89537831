use Rattle.std.proofs.Common.{◌≡◌, None, option_map, rules}
use Rattle.mp_records.specs.PortChanges.{with_delay}
use Rattle.mp_netlist.specs.Edits.{delay_refusal, module_id}
use Rattle.mp_netlist.proofs.EditLemmas.{IsCircuit-delayed}
use Rattle.mp_netlist.proofs.FoundLemmas.{module_found, same_module}
use Rattle.mp_netlist.proofs.netlist.Netlist.check_delay.Goals as goal

pub returns-clause-found : goal.returns-clause-found
returns-clause-found c =
    let n = c.args.self.now in
    let name = c.args.name.now in
    let none : delay_refusal n name c.args.port c.args.delay ≡ None = search rules in
    record {
      made = same_module n (option_map (with_delay c.args.port c.args.delay)) c.in-Some.id (module_id n name) (module_found n name c.in-Some.id c.in-Some.ensures);
      new = tt;
      form = λ ok. IsCircuit-delayed n ok name c.args.port c.args.delay none;
    }
