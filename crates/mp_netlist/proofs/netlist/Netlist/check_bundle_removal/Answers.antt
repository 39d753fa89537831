use Rattle.std.proofs.Common.{◌≡◌, None, ap, rules}
use Rattle.mp_records.specs.declared.ids.BundleId.{BundleId}
use Rattle.mp_netlist.specs.Edits.{bundle_id, bundle_removal_refusal, with_bundle}
use Rattle.mp_netlist.proofs.NameLemmas.{bundle_within}
use Rattle.mp_netlist.proofs.CircuitLemmas.{IsCircuit-remove_bundle}
use Rattle.mp_netlist.proofs.EditLemmas.{going_bundle}
use Rattle.mp_netlist.proofs.FoundLemmas.{bundle_found}
use Rattle.mp_netlist.proofs.netlist.Netlist.check_bundle_removal.Goals as goal

pub returns-in-Some-clause-found : goal.returns-in-Some-clause-found
returns-in-Some-clause-found c =
    let n = c.args.self.now in
    let name = c.args.name.now in
    let none : bundle_removal_refusal n name ≡ None = search rules in
    record {
      made = ap (λ (b : BundleId). with_bundle n b.0 None) (bundle_found n name c.in-Some.id c.in-Some.ensures);
      new = tt;
      form = λ ok. IsCircuit-remove_bundle n ok (bundle_id n name).0 (bundle_within n name (going_bundle n name none));
    }
