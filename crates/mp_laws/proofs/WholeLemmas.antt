-- All wires are a whole set, and the control is one.
use Rattle.std.proofs.Common.{◌≡◌, ℕ, ◌<◌, ◌==◌, ◌⊎◌, inl, inr, Bool, true, false, cond, List, [], ◌∷◌, length, get_or, filter, zero, suc, refl, ap, sym, ◌∙◌, arith}
use Rattle.std.specs.Prelude.{◌||◌, ◌&&◌}
use Rattle.std.specs.List.{list_all}
use Rattle.std.proofs.lemmas.Bool.{cases_Bool, eq-eqb, and_parts}
use Rattle.mp_records.specs.declared.ports.Input.{Input}
use Rattle.mp_netlist.specs.Circuit.{Circuit, IsCircuit}
use Rattle.mp_steady.specs.WireSets.{all_wires, control, has_control, has_events, has_inputs, has_wire, is_whole, subsets, wire_inputs}
use Rattle.mp_steady.proofs.ControlLemmas.{in_all, inputs_all, inputs_stand}
use Rattle.mp_steady.proofs.ListLemmas.{in_kept, kept_passes}
use Rattle.mp_steady.proofs.SetLemmas.{of_wire}
use Rattle.mp_laws.specs.Repeating.{AreWhole}

or_true : (b : Bool) → (b || true) ≡ true
or_true true = refl
or_true false = refl

-- a test that all wires of a list pass
all_of : (p : ℕ → Bool) (xs : List ℕ) → ((w : ℕ) → has_wire xs w ≡ true → p w ≡ true) → list_all p xs ≡ true
all_of p [] each = refl
all_of p (x ∷ xs) each =
    ap (λ b. b && list_all p xs) (each x (ap (λ b. b || has_wire xs x) (eq-eqb x x refl))) ∙ all_of p xs (λ w has. each w (ap (λ b. (x == w) || b) has ∙ or_true (x == w)))

-- what all lists that are kept pass, if they pass two other tests
kept_two : (q r s : List ℕ → Bool) (xs : List (List ℕ)) → ((x : List ℕ) → q x ≡ true → r x ≡ true → s x ≡ true) → list_all r (filter q xs) ≡ true → list_all s (filter q xs) ≡ true
kept_two q r s [] both all = refl
kept_two q r s (x ∷ xs) both all = by (cases_Bool (q x)) (kept_two q r s xs both)
  where
    by : ((q x ≡ true) ⊎ (q x ≡ false)) → (list_all r (filter q xs) ≡ true → list_all s (filter q xs) ≡ true) → list_all s (filter q (x ∷ xs)) ≡ true
    by (inl keeps) rest =
        let parts = and_parts (r x) (list_all r (filter q xs)) (sym (ap (λ b. list_all r (cond b (x ∷ filter q xs) (filter q xs))) keeps) ∙ all) in
        ap (λ b. list_all s (cond b (x ∷ filter q xs) (filter q xs))) keeps ∙ ap (λ b. b && list_all s (filter q xs)) (both x keeps parts.0) ∙ rest parts.1
    by (inr drops) rest =
        ap (λ b. list_all s (cond b (x ∷ filter q xs) (filter q xs))) drops ∙ rest (sym (ap (λ b. list_all r (cond b (x ∷ filter q xs) (filter q xs))) drops) ∙ all)

-- what all inputs pass, one of them passes
at_input : (p : Input → Bool) (inputs : List Input) (k : ℕ) (e : Input) → list_all p inputs ≡ true → k < length inputs → p (get_or inputs k e) ≡ true
at_input p [] k e all low = absurd (omega (arith, low))
at_input p (i ∷ is) zero e all low = (and_parts (p i) (list_all p is) all).0
at_input p (i ∷ is) (suc k) e all low = at_input p is k e (and_parts (p i) (list_all p is) all).1 (omega (arith, low))

module _ (n : Circuit) (ok : IsCircuit n) where
  pub all_whole : is_whole n (all_wires n) ≡ true
  all_whole = all_of (has_inputs n (all_wires n)) (all_wires n) (λ w has. inputs_all n w (all_wires n) (λ k e low. in_all n (get_or (wire_inputs n w) k e).wire.0 (inputs_stand n ok w k e low)))

  -- a wire is in each whole set with all wires of width 1
  abbrev needed : ℕ → Bool
  needed w = list_all (λ wires. has_wire wires w) (filter (has_control n) (subsets (all_wires n)))

  control_whole : is_whole n (control n) ≡ true
  unfolding control
  control_whole =
      all_of (has_inputs n (filter needed (all_wires n))) (filter needed (all_wires n))
      (λ w has. inputs_all n w (filter needed (all_wires n)) (λ k e low.
      in_kept needed (all_wires n) (get_or (wire_inputs n w) k e).wire.0 (in_all n (get_or (wire_inputs n w) k e).wire.0 (inputs_stand n ok w k e low))
      (kept_two (has_control n) (λ wires. has_wire wires w) (λ wires. has_wire wires (get_or (wire_inputs n w) k e).wire.0) (subsets (all_wires n))
      (λ wires controls member.
      at_input (λ (i : Input). has_wire wires i.wire.0) (wire_inputs n w) k e
      (of_wire (has_inputs n wires) wires w (and_parts (is_whole n wires) (list_all (has_wire wires) (filter (has_events n) (all_wires n))) controls).0 member) low)
      (kept_passes needed (all_wires n) w has))))

pub sets_are_whole : AreWhole
sets_are_whole n ok = (all_whole n ok, control_whole n ok)
