use Rattle.std.proofs.Common.{sym, refl}
use Rattle.mp_netlist.proofs.EditLemmas.{IsCircuit-with_new_module}
use Rattle.mp_netlist.proofs.FoundLemmas.{module_is_free}
use Rattle.mp_netlist.proofs.netlist.Netlist.check_new_module.Goals as goal

pub returns-clause-found : goal.returns-clause-found
returns-clause-found c =
    let n = c.args.self.now in
    let none = sym c.in_ok-ports.ensures.refused in
    record {
      made = rw (c.in_ok-ports.ensures.inputs, c.in_ok-ports.ensures.outputs) refl;
      new = module_is_free n c.args.new.now none;
      form = λ ok. IsCircuit-with_new_module n ok c.args.new.now none;
    }
