-- The edits of a netlist's records by name lead to a netlist with the same records.
use Rattle.mp_text.proofs.Names.{AddModule, edit_for, map, option_map, ◌≡◌, ◌∷◌, ◌++◌, ℕ, suc, List, [], get_or, Option, Some, None, Ok, refl, flat_map, append-nil, WireId, WireRecord, ModuleRecord, Circuit, IsCircuit, empty_circuit, HasNames, replay_singles, name_in, wire_name, SameRecords, standing, module_edits, stimulus_edits, bundle_edits, edits_by_name, arith, nat_tests, written_format}
use Rattle.mp_text.proofs.WireStageLemmas.{bare, made, wires_reached}
use Rattle.mp_text.proofs.ModuleStageLemmas.{modules_reached}
use Rattle.mp_text.proofs.StimulusStageLemmas.{kept, stimuli_reached}
use Rattle.mp_text.proofs.BundleStageLemmas.{AtBundles, bundles_reached}

standing-kept : (slots : List (Option WireRecord)) → standing (flat_map kept slots) ≡ standing slots
standing-kept [] = refl
standing-kept (x ∷ slots) = grind (arith, nat_tests, (standing-kept slots))

-- what is set on wires leaves their names
names_kept : (slots : List (Option WireRecord)) (v : ℕ) → name_in (get_or (flat_map kept slots) v None) ≡ name_in (get_or (flat_map bare slots) v None)
names_kept (None ∷ slots) v = names_kept slots v
names_kept (Some r ∷ slots) (suc v) = names_kept slots v
names_kept slots v = refl

-- modules have the same names of wires in netlists whose wires have the same names
module _ (c d : Circuit) (names : (w : WireId) → wire_name c w ≡ wire_name d w) where
  modules_agree : (slots : List (Option ModuleRecord)) → flat_map (module_edits c) slots ≡ flat_map (module_edits d) slots
  modules_agree slots = λ j. flat_map (edit_for (λ r. AddModule (record {
    name = r.name;
    kind = r.kind;
    params = r.params;
    inputs = map (λ i. record { wire = names i.wire j; delay = i.delay }) r.inputs;
    outputs = map (λ o. record { wire = option_map (λ w. names w j) o.wire; delay = o.delay }) r.outputs;
  }))) slots

-- the edits of the records lead to a netlist with the same records
pub record IsMadeAgain (n : Circuit) : Type 0 where
  pub again : Circuit
  pub replayed : replay_singles (empty_circuit (written_format n) n.horizon) (edits_by_name n) ≡ Ok again
  pub same : SameRecords n again

module _ (n : Circuit) (circuit : IsCircuit n) (named : HasNames n) (modules : List (Option ModuleRecord))
    (same : flat_map (module_edits (made n (flat_map bare n.wires) [] [])) modules ≡ flat_map (module_edits n) n.modules) where
  -- a netlist of the same wires, modules and bundles by name
  same_records : (c : Circuit) → AtBundles n circuit named modules n.bundles [] c → SameRecords n c
  same_records c at = grind (arith, nat_tests, standing-kept, modules_agree, names_kept)

pub made_again : (n : Circuit) → IsCircuit n → HasNames n → IsMadeAgain n
made_again n circuit named =
    let wires = wires_reached n circuit named in
    let modules = modules_reached n circuit named in
    let stimuli = stimuli_reached n circuit named modules.holds.things modules.holds.same in
    let bundles = bundles_reached n circuit named modules.holds.things in
    let last = flat_map (bundle_edits n) n.bundles in
    let others = flat_map stimulus_edits n.wires ++ last in
    let edits = flat_map (module_edits n) n.modules ++ others in
    record {
      again = bundles.goal;
      replayed = grind (arith, append-nil, (wires.leads edits), wires.holds, (modules.leads others), modules.holds.is, (stimuli.leads last), stimuli.holds, (bundles.leads []));
      same = same_records n circuit named modules.holds.things modules.holds.same bundles.goal bundles.holds;
    }
