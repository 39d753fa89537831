-- What a checked change makes, where the checks found the number of what an edit names.
use Rattle.std.proofs.Common.{◌≡◌, ℕ, true, List, Option, Some, None, is_none, refl, ap}
use Rattle.std.specs.Prelude.{unwrap_or}
use Rattle.mp_records.specs.declared.ids.WireId.{WireId}
use Rattle.mp_records.specs.declared.ids.ModuleId.{ModuleId}
use Rattle.mp_records.specs.declared.ids.BundleId.{BundleId}
use Rattle.mp_records.specs.declared.module_record.ModuleRecord.{ModuleRecord}
use Rattle.mp_records.specs.declared.wire_record.WireRecord.{WireRecord}
use Rattle.mp_records.specs.declared.new_module.NewModule.{NewModule}
use Rattle.mp_records.specs.declared.new_bundle.NewBundle.{NewBundle}
use Rattle.mp_netlist.specs.Circuit.{Circuit, wire_at, module_at, wire_named, module_named, bundle_named}
use Rattle.mp_netlist.specs.Edits.{wire_id, module_id, bundle_id, with_wire, with_module, wire_refusal, module_refusal, bundle_refusal}
use Rattle.mp_netlist.proofs.EditLemmas.{new_wire, is_new_module, is_new_bundle}

-- a name leads to the number that was found
pub wire_found : (n : Circuit) (name : List ℕ) (id : WireId) → Some id.0 ≡ wire_named n name → id ≡ wire_id n name
wire_found n name id found = ap (λ (k : Option ℕ). let w : WireId = record { 0 = unwrap_or k 0 } in w) found

pub module_found : (n : Circuit) (name : List ℕ) (id : ModuleId) → Some id.0 ≡ module_named n name → id ≡ module_id n name
module_found n name id found = ap (λ (k : Option ℕ). let m : ModuleId = record { 0 = unwrap_or k 0 } in m) found

pub bundle_found : (n : Circuit) (name : List ℕ) (id : BundleId) → Some id.0 ≡ bundle_named n name → id ≡ bundle_id n name
bundle_found n name id found = ap (λ (k : Option ℕ). let b : BundleId = record { 0 = unwrap_or k 0 } in b) found

-- a wire that is changed in its slot, and a module
pub same_wire : (n : Circuit) (change : Option WireRecord → Option WireRecord) (one other : WireId) → one ≡ other → with_wire n one.0 (change (wire_at n one.0)) ≡ with_wire n other.0 (change (wire_at n other.0))
same_wire n change one other same = ap (λ (w : WireId). with_wire n w.0 (change (wire_at n w.0))) same

pub same_module : (n : Circuit) (change : Option ModuleRecord → Option ModuleRecord) (one other : ModuleId) → one ≡ other → with_module n one.0 (change (module_at n one.0)) ≡ with_module n other.0 (change (module_at n other.0))
same_module n change one other same = ap (λ (m : ModuleId). with_module n m.0 (change (module_at n m.0))) same

is_none-none : {A : Type 0} (found : Option A) → is_none found ≡ true → found ≡ None
is_none-none None none = refl
is_none-none (Some x) none = cc

-- the name of a new thing is free
pub wire_is_free : (n : Circuit) (name : List ℕ) (width level : ℕ) → wire_refusal n name width level ≡ None → wire_named n name ≡ None
wire_is_free n name width level none = is_none-none _ (new_wire n name width level none).free

pub module_is_free : (n : Circuit) (new : NewModule) → module_refusal n new ≡ None → module_named n new.name ≡ None
module_is_free n new none = is_none-none _ (is_new_module n new none).free

pub bundle_is_free : (n : Circuit) (new : NewBundle) → bundle_refusal n new ≡ None → bundle_named n new.name ≡ None
bundle_is_free n new none = is_none-none _ (is_new_bundle n new none).free
