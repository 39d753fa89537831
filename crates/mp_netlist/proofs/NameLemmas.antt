-- What a name finds stands, nothing else of its sort has the name, and it is so after something is added, goes or is written over.
use Rattle.std.proofs.Common.{◌≡◌, ℕ, ◌<◌, length, true, List, Option, Some, is_some, is_none, sym, ap, ◌∙◌}
use Rattle.mp_records.specs.declared.wire_record.WireRecord.{WireRecord}
use Rattle.mp_records.specs.declared.module_record.ModuleRecord.{ModuleRecord}
use Rattle.mp_records.specs.declared.bundle_record.BundleRecord.{BundleRecord}
use Rattle.mp_records.specs.Names.{is_name}
use Rattle.mp_netlist.specs.Circuit.{Circuit, HasNames, wire_at, module_at, bundle_at, wire_named, module_named, bundle_named, width_of}
use Rattle.mp_netlist.specs.Edits.{stands, wire_id, width_named, module_stands, module_id, bundle_stands, bundle_id, with_wire_record, with_wire, with_new_module, with_module, with_new_bundle, with_bundle}
use Rattle.mp_netlist.proofs.TableLemmas.{named_has, one_name, IsNamed, is_named, slot_within, IsNamesake, AreNamed-push, AreApart-push, AreNamed-rewrite, AreApart-rewrite}

abbrev pub wire_name : WireRecord → List ℕ
wire_name r = r.name

abbrev pub module_name : ModuleRecord → List ℕ
module_name r = r.name

abbrev pub bundle_name : BundleRecord → List ℕ
bundle_name r = r.name

-- what is known of a wire that a name finds
pub record Stands (n : Circuit) (name : List ℕ) : Type 0 where
  pub wire : WireRecord
  pub named : wire_named n name ≡ Some (wire_id n name).0
  pub at : wire_at n (wire_id n name).0 ≡ Some wire
  pub width : width_named n name ≡ wire.width

pub stands_from : (n : Circuit) (name : List ℕ) → stands n name ≡ true → Stands n name
stands_from n name is =
    let wire = is_named wire_name n.wires name is in
    record { wire = wire.thing; named = wire.named; at = wire.at; width = ap width_of wire.found }

pub stands_within : (n : Circuit) (name : List ℕ) → Stands n name → (wire_id n name).0 < length n.wires
stands_within n name wire = slot_within n.wires (wire_id n name).0 (ap is_some wire.at)

-- two names of one wire are the same
pub one_wire : (n : Circuit) (a b : List ℕ) → Stands n a → Stands n b → (wire_id n a).0 ≡ (wire_id n b).0 → a ≡ b
one_wire n a b first second same =
    one_name wire_name a b (wire_at n (wire_id n a).0)
    (named_has wire_name n.wires a _ first.named)
    (named_has wire_name n.wires b _ (second.named ∙ ap Some (sym same)))

-- what is known of a module that a name finds
abbrev pub ModuleStands : Circuit → List ℕ → Type 0
ModuleStands n name = IsNamed module_name n.modules name

pub module_stands_from : (n : Circuit) (name : List ℕ) → module_stands n name ≡ true → ModuleStands n name
module_stands_from n name is = is_named module_name n.modules name is

pub module_within : (n : Circuit) (name : List ℕ) → ModuleStands n name → (module_id n name).0 < length n.modules
module_within n name part = slot_within n.modules (module_id n name).0 (ap is_some part.at)

-- what is known of a bundle that a name finds
abbrev pub BundleStands : Circuit → List ℕ → Type 0
BundleStands n name = IsNamed bundle_name n.bundles name

pub bundle_stands_from : (n : Circuit) (name : List ℕ) → bundle_stands n name ≡ true → BundleStands n name
bundle_stands_from n name is = is_named bundle_name n.bundles name is

pub bundle_within : (n : Circuit) (name : List ℕ) → BundleStands n name → (bundle_id n name).0 < length n.bundles
bundle_within n name bundle = slot_within n.bundles (bundle_id n name).0 (ap is_some bundle.at)

-- a new wire has a name that no wire has
pub HasNames-add_wire : (n : Circuit) → HasNames n → (r : WireRecord) → is_name r.name ≡ true → is_none (wire_named n r.name) ≡ true → HasNames (with_wire_record n r)
HasNames-add_wire n names r is free = record {
  wires = AreNamed-push wire_name n.wires r is names.wires;
  modules = names.modules;
  bundles = names.bundles;
  one_wire = AreApart-push wire_name n.wires r free names.one_wire;
  one_module = names.one_module;
  one_bundle = names.one_bundle;
}

-- a wire goes, or another of its name stands for it
pub HasNames-rewrite_wire : (n : Circuit) → HasNames n → (id : ℕ) (slot : Option WireRecord) → id < length n.wires
    → ((s : WireRecord) → slot ≡ Some s → IsNamesake wire_name (wire_at n id) s) → HasNames (with_wire n id slot)
HasNames-rewrite_wire n names id slot within namesake = record {
  wires = AreNamed-rewrite wire_name n.wires id slot within namesake names.wires;
  modules = names.modules;
  bundles = names.bundles;
  one_wire = AreApart-rewrite wire_name n.wires id slot within namesake names.one_wire;
  one_module = names.one_module;
  one_bundle = names.one_bundle;
}

-- a new module has a name that no module has
pub HasNames-add_module : (n : Circuit) → HasNames n → (r : ModuleRecord) → is_name r.name ≡ true → is_none (module_named n r.name) ≡ true → HasNames (with_new_module n r)
HasNames-add_module n names r is free = record {
  wires = names.wires;
  modules = AreNamed-push module_name n.modules r is names.modules;
  bundles = names.bundles;
  one_wire = names.one_wire;
  one_module = AreApart-push module_name n.modules r free names.one_module;
  one_bundle = names.one_bundle;
}

-- a module goes, or another of its name stands for it
pub HasNames-rewrite_module : (n : Circuit) → HasNames n → (id : ℕ) (slot : Option ModuleRecord) → id < length n.modules
    → ((s : ModuleRecord) → slot ≡ Some s → IsNamesake module_name (module_at n id) s) → HasNames (with_module n id slot)
HasNames-rewrite_module n names id slot within namesake = record {
  wires = names.wires;
  modules = AreNamed-rewrite module_name n.modules id slot within namesake names.modules;
  bundles = names.bundles;
  one_wire = names.one_wire;
  one_module = AreApart-rewrite module_name n.modules id slot within namesake names.one_module;
  one_bundle = names.one_bundle;
}

-- a new bundle has a name that no bundle has
pub HasNames-add_bundle : (n : Circuit) → HasNames n → (r : BundleRecord) → is_name r.name ≡ true → is_none (bundle_named n r.name) ≡ true → HasNames (with_new_bundle n r)
HasNames-add_bundle n names r is free = record {
  wires = names.wires;
  modules = names.modules;
  bundles = AreNamed-push bundle_name n.bundles r is names.bundles;
  one_wire = names.one_wire;
  one_module = names.one_module;
  one_bundle = AreApart-push bundle_name n.bundles r free names.one_bundle;
}

-- a bundle goes, or another of its name stands for it
pub HasNames-rewrite_bundle : (n : Circuit) → HasNames n → (id : ℕ) (slot : Option BundleRecord) → id < length n.bundles
    → ((s : BundleRecord) → slot ≡ Some s → IsNamesake bundle_name (bundle_at n id) s) → HasNames (with_bundle n id slot)
HasNames-rewrite_bundle n names id slot within namesake = record {
  wires = names.wires;
  modules = names.modules;
  bundles = AreNamed-rewrite bundle_name n.bundles id slot within namesake names.bundles;
  one_wire = names.one_wire;
  one_module = names.one_module;
  one_bundle = AreApart-rewrite bundle_name n.bundles id slot within namesake names.one_bundle;
}
