use Rattle.std.proofs.Common.{◌≡◌, None, ap, rules}
use Rattle.mp_records.specs.declared.ids.ModuleId.{ModuleId}
use Rattle.mp_netlist.specs.Edits.{module_removal_refusal, with_module}
use Rattle.mp_netlist.proofs.EditLemmas.{going_module, IsCircuit-without_module}
use Rattle.mp_netlist.proofs.FoundLemmas.{module_found}
use Rattle.mp_netlist.proofs.netlist.Netlist.check_module_removal.Goals as goal

pub returns-in-Some-clause-found : goal.returns-in-Some-clause-found
returns-in-Some-clause-found c =
    let n = c.args.self.now in
    let name = c.args.name.now in
    let none : module_removal_refusal n name ≡ None = search rules in
    record {
      made = ap (λ (m : ModuleId). with_module n m.0 None) (module_found n name c.in-Some.id c.in-Some.ensures);
      new = tt;
      form = λ ok. IsCircuit-without_module n ok name (going_module n name none);
    }
