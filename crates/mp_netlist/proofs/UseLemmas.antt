-- A wire that a module or a bundle names is used.
use Rattle.std.proofs.Common.{◌≡◌, ℕ, ◌<◌, ◌≤◌, true, false, ◌==◌, ◌||◌, All, length, get_or, Option, Some, None, is_some, refl, ap, subst, ◌∙◌, ◌⊎◌, inl, inr, arith}
use Rattle.std.specs.Option.{IfSome}
use Rattle.std.specs.Prelude.{slice_index_or}
use Rattle.std.specs.List.{list_any}
use Rattle.std.proofs.lemmas.Bool.{or_left, or_right, eq-eqb, ne_eqb, cases_lt}
use Rattle.std.proofs.lemmas.List.{get_or_past, get_or_default}
use Rattle.std.proofs.lemmas.List.Folds.{list_any_at, list_any_none}
use Rattle.mp_records.specs.declared.ids.WireId.{WireId}
use Rattle.mp_records.specs.declared.module_record.ModuleRecord.{ModuleRecord}
use Rattle.mp_records.specs.declared.bundle_record.BundleRecord.{BundleRecord}
use Rattle.mp_records.specs.declared.ports.Input.{Input}
use Rattle.mp_records.specs.declared.ports.Output.{Output}
use Rattle.mp_records.specs.Outputs.{output_at}
use Rattle.mp_records.specs.NamedWires.{is_wire}
use Rattle.mp_records.specs.NamedWires.{module_names, bundle_names}
use Rattle.mp_netlist.specs.Slots.{stands_and}
use Rattle.mp_netlist.specs.Circuit.{Circuit, IsCircuit, IsModule, HasWidth, module_at, bundle_at}
use Rattle.mp_netlist.specs.Uses.{is_used}
use Rattle.mp_netlist.proofs.TableLemmas.{slot_within}

pub input_is_named : (r : ModuleRecord) (p : ℕ) (i : Input) → p < length r.inputs → module_names (slice_index_or r.inputs p i).wire.0 r ≡ true
input_is_named r p i within =
    let w = (slice_index_or r.inputs p i).wire.0 in
    or_left (list_any (λ (j : Input). j.wire.0 == w) r.inputs) _ (list_any_at (λ (j : Input). j.wire.0 == w) r.inputs p i within (eq-eqb w w refl))

-- a port that has a wire is within the ports
pub output_within : (r : ModuleRecord) (p : ℕ) (v : WireId) → (output_at r p).wire ≡ Some v → p < length r.outputs
output_within r p v at = by (cases_lt p (length r.outputs))
  where
    by : (p < length r.outputs) ⊎ (length r.outputs ≤ p) → p < length r.outputs
    by (inl within) = within
    by (inr past) = let none = ap (λ (o : Output). o.wire) (get_or_past r.outputs p (record { wire = None; delay = 1 }) past) in cc

pub output_is_named : (r : ModuleRecord) (p : ℕ) (v : WireId) → (output_at r p).wire ≡ Some v → module_names v.0 r ≡ true
output_is_named r p v at =
    or_right (list_any (λ (i : Input). i.wire.0 == v.0) r.inputs) _
    (list_any_at (λ (o : Output). is_wire o.wire v.0) r.outputs p (record { wire = None; delay = 1 }) (output_within r p v at)
    (ap (λ named. is_wire named v.0) at ∙ eq-eqb v.0 v.0 refl))

pub used_by_module : (n : Circuit) (m : ℕ) (r : ModuleRecord) (w : ℕ) → module_at n m ≡ Some r → module_names w r ≡ true → is_used n w ≡ true
unfolding is_used
used_by_module n m r w at names =
    or_left (list_any (stands_and (module_names w)) n.modules) _
    (list_any_at (stands_and (module_names w)) n.modules m None (slot_within n.modules m (ap is_some at)) (ap (stands_and (module_names w)) at ∙ names))

pub used_by_bundle : (n : Circuit) (b : ℕ) (r : BundleRecord) (w : ℕ) → bundle_at n b ≡ Some r → bundle_names w r ≡ true → is_used n w ≡ true
unfolding is_used
used_by_bundle n b r w at names =
    or_right (list_any (stands_and (module_names w)) n.modules) _
    (list_any_at (stands_and (bundle_names w)) n.bundles b None (slot_within n.bundles b (ap is_some at)) (ap (stands_and (bundle_names w)) at ∙ names))

pub request_is_named : (r : BundleRecord) → bundle_names r.request.0 r ≡ true
request_is_named r = let w = r.request.0 in or_left (w == w || r.acknowledge.0 == w) _ (or_left (w == w) _ (eq-eqb w w refl))

pub acknowledge_is_named : (r : BundleRecord) → bundle_names r.acknowledge.0 r ≡ true
acknowledge_is_named r = let w = r.acknowledge.0 in or_left (r.request.0 == w || w == w) _ (or_right (r.request.0 == w) _ (eq-eqb w w refl))

pub payload_is_named : (r : BundleRecord) → bundle_names r.payload.0 r ≡ true
payload_is_named r = let w = r.payload.0 in or_right (r.request.0 == w || r.acknowledge.0 == w) _ (eq-eqb w w refl)

-- no module names a wire that is yet to be added
pub next_is_unnamed : (n : Circuit) → IsCircuit n → (w : ℕ) → w ≡ length n.wires → (m : ℕ) → stands_and (module_names w) (module_at n m) ≡ false
next_is_unnamed n ok w next m = by (module_at n m) refl
  where
    absent : (width v : ℕ) → HasWidth n v width → v ≡ w → ⊥
    absent width v has same = let none = ap is_some (get_or_past n.wires v None (omega (arith, next, same))) in let stands = has.0 in cc

    none_reads : (r : ModuleRecord) → IsModule n r → All (λ (i : Input). (i.wire.0 == w) ≡ false) r.inputs
    none_reads r fits k d within = ne_eqb (get_or r.inputs k d).wire.0 w (absent _ (get_or r.inputs k d).wire.0 (fits.reads k d within))

    is_other : (r : ModuleRecord) → (wire : Option WireId) (width : ℕ) → IfSome wire (λ v. HasWidth n v.0 width) → is_wire wire w ≡ false
    is_other r None width fits = refl
    is_other r (Some v) width fits = ne_eqb v.0 w (absent width v.0 fits)

    none_drives : (r : ModuleRecord) → IsModule n r → All (λ (o : Output). is_wire o.wire w ≡ false) r.outputs
    none_drives r fits k d within =
        subst (λ (o : Output). is_wire o.wire w ≡ false) (get_or_default r.outputs k (record { wire = None; delay = 1 }) d within)
        (is_other r (output_at r k).wire _ (fits.drives k))

    here : (r : ModuleRecord) → IsModule n r → module_names w r ≡ false
    here r fits = rw (
      list_any_none (λ (i : Input). i.wire.0 == w) r.inputs (none_reads r fits),
      list_any_none (λ (o : Output). is_wire o.wire w) r.outputs (none_drives r fits),
    ) refl

    by : (slot : Option ModuleRecord) → module_at n m ≡ slot → stands_and (module_names w) slot ≡ false
    by None at = refl
    by (Some r) at = here r (ok.modules_ok m r at)
