-- The edits of a netlist's bundles, once its wires are added, are not refused.
use Rattle.mp_text.proofs.Names.{◌≡◌, ◌<◌, ◌≤◌, ◌∷◌, ◌++◌, each_end, each_ok, All-get_or, added_bundle, ℕ, List, [], length, get_or, All, Option, Some, None, Ok, is_none, refl, ap, ◌∙◌, arith, length-append, flat_map, eq-eqb, nat_tests, get_or_at, ModuleRecord, BundleRecord, Circuit, IsCircuit, IsBundle, bundle_at, HasNames, bundle_by_name, bundle_edits, and_from, refusal, edited, after_single, bundle_checks, new_bundle, bundle_limit, written_format}
use Rattle.mp_text.proofs.FormatLemmas.{bundles_fit}
use Rattle.mp_text.proofs.GivenLemmas.{wanting_given, front_none}
use Rattle.mp_text.proofs.SlotLemmas.{Unnamed, named_nowhere, front_unnamed}
use Rattle.mp_text.proofs.StageLemmas.{none_failing, is_done, Reaches, Added, AddsOne, added_reached, unnamed_again}
use Rattle.mp_text.proofs.WireStageLemmas.{made, HasWires, HasWires-compact, IsBack, is_back}
use Rattle.mp_text.proofs.StimulusStageLemmas.{kept}

abbrev bundle_name : BundleRecord → List ℕ
bundle_name r = r.name

module _ (n : Circuit) (circuit : IsCircuit n) (named : HasNames n) (modules : List (Option ModuleRecord)) where
  -- the netlist with these bundles
  abbrev pub bundled : List (Option BundleRecord) → Circuit
  bundled bundles = made n (flat_map kept n.wires) modules bundles

  has_wires : (bundles : List (Option BundleRecord)) → HasWires n (bundled bundles)
  has_wires bundles = HasWires-compact n circuit named (λ r. r) (λ r. refl) (λ r. refl) (bundled bundles) refl

  -- the bundles of the front are added
  abbrev pub AtBundles : List (Option BundleRecord) → List (Option BundleRecord) → Circuit → Type 0
  AtBundles = Added n.bundles (added_bundle n) (added_bundle (bundled [])) bundled

  module _ (front back : List (Option BundleRecord)) (r : BundleRecord) (split : n.bundles ≡ front ++ Some r ∷ back) (bundles : List (Option BundleRecord))
      (same : flat_map (bundle_edits (bundled [])) bundles ≡ flat_map (bundle_edits n) front) (few : length bundles ≤ length front) where
    abbrev c : Circuit
    c = bundled bundles

    at : bundle_at n (length front) ≡ Some r
    at = ap (λ xs. get_or xs (length front) None) split ∙ get_or_at front (Some r) back None (length front) refl

    is : IsBundle n r
    is = circuit.bundles_ok (length front) r at

    request : IsBack n c r.request
    request = is_back n c (has_wires bundles) r.request is.request.0

    acknowledge : IsBack n c r.acknowledge
    acknowledge = is_back n c (has_wires bundles) r.acknowledge is.acknowledge.0

    payload : IsBack n c r.payload
    payload = is_back n c (has_wires bundles) r.payload is.payload

    unnamed : All (Unnamed bundle_name r.name) bundles
    unnamed =
        unnamed_again n.bundles (added_bundle n) (added_bundle c) bundled bundle_name r.name (λ s none. none) (λ s none. none) front bundles same
        (front_unnamed bundle_name n.bundles front back r named.one_bundle split)

    abbrev new : BundleRecord
    new = new_bundle c (bundle_by_name n r)

    bundle_done : after_single c (added_bundle n r) ≡ Ok (bundled (bundles ++ Some new ∷ []))
    unfolding refusal edited
    bundle_done =
        let valid = named.bundles (length front) r at in
        let free = ap is_none (named_nowhere bundle_name r.name bundles unnamed) in
        let found = and_from _ _ (and_from _ _ request.found acknowledge.found) payload.found in
        let wide = and_from _ _ (eq-eqb _ _ (request.width ∙ is.request.1)) (eq-eqb _ _ (acknowledge.width ∙ is.acknowledge.1)) in
        let within : length front < bundle_limit (written_format n) = omega (arith, ap length split, length-append front (Some r ∷ back), circuit.bundles_few, bundles_fit n) in
        is_done c (added_bundle n r) (none_failing (bundle_checks c (bundle_by_name n r)) (grind (arith, nat_tests, valid, free, found, wide, is.setup)))

    bundle_added : AddsOne n.bundles (added_bundle n) (added_bundle (bundled [])) bundled r bundles
    bundle_added = record { new = new; done = bundle_done; same = rw (request.name, acknowledge.name, payload.name) refl }

  -- the bundles are added
  pub bundles_reached : Reaches (AtBundles n.bundles []) (bundled []) (flat_map (bundle_edits n) n.bundles)
  bundles_reached = added_reached n.bundles (added_bundle n) (added_bundle (bundled [])) bundled bundle_added

pub ruleset batch_line_each_part_steps = (All-get_or, each_ok, each_end, front_none, wanting_given)
