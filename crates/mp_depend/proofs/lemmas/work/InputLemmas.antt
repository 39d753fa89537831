-- Where the inputs of a module have other levels in two netlists.
use Rattle.std.proofs.Common.{◌≡◌, ◌≢◌, ℕ, zero, suc, ◌<◌, Bool, true, false, List, [], ◌∷◌, length, map, refl, sym, ap, ◌∙◌, arith}
use Rattle.std.specs.Prelude.{◌==◌, slice_index_or}
use Rattle.std.proofs.lemmas.Bool.{eqb-true, eqb-false}
use Rattle.std.proofs.lemmas.List.{get_or-map}
use Rattle.mp_records.specs.declared.ports.Input.{Input}
use Rattle.mp_records.specs.Inputs.{no_input}
use Rattle.mp_netlist.specs.Circuit.{module_at}
use Rattle.mp_model.specs.Levels.{input_by}
use Rattle.mp_model.specs.Waves.{level}
use Rattle.mp_model.specs.Reach.{inputs, slot_inputs, IsApart}
use Rattle.mp_depend.specs.work.Stays.{IsInputApart, ApartByInputs}
use Rattle.mp_depend.proofs.lemmas.work.StayLemmas.{some_is}

record Differs (f g : Input → ℕ) (xs : List Input) : Type 0 where
  port : ℕ
  within : port < length xs
  differ : f (slice_index_or xs port no_input) ≢ g (slice_index_or xs port no_input)

-- two lists of levels that differ do so at a port
differ_at : (f g : Input → ℕ) (xs : List Input) → map f xs ≢ map g xs → Differs f g xs
differ_at f g [] differ = absurd (differ refl)
differ_at f g (x ∷ xs) differ = by (f x == g x) refl (differ_at f g xs)
  where
    by : (b : Bool) → (f x == g x) ≡ b → (map f xs ≢ map g xs → Differs f g xs) → Differs f g (x ∷ xs)
    by false e rest = record { port = zero; within = omega arith; differ = eqb-false (f x) (g x) e }
    by true e rest =
        let found = rest (λ same. differ (ap (λ k. k ∷ map f xs) (eqb-true (f x) (g x) e) ∙ ap (λ ys. g x ∷ ys) same)) in
        record { port = suc found.port; within = let low = found.within in omega arith; differ = found.differ }

pub apart_by_inputs : ApartByInputs
apart_by_inputs old new m t r kept = (there, here)
  where
    was : inputs old m t ≡ map (λ i. input_by old (level old) i t) r.inputs
    was = ap (λ slot. slot_inputs old slot t) kept.before

    now : inputs new m t ≡ map (λ i. input_by new (level new) i t) r.inputs
    now = ap (λ slot. slot_inputs new slot t) kept.after

    there : IsApart old new m t → IsInputApart old new r t
    there apart =
        let found = differ_at (λ i. input_by old (level old) i t) (λ i. input_by new (level new) i t) r.inputs (λ e. apart.differ (was ∙ e ∙ sym now)) in
        (found.port, found.within, found.differ)

    here : IsInputApart old new r t → IsApart old new m t
    here found = record {
      before = some_is (module_at old m) r kept.before;
      after = some_is (module_at new m) r kept.after;
      differ = λ same.
          let p = found.0 in
          let one = get_or-map (λ i. input_by old (level old) i t) r.inputs p no_input 0 found.1 in
          let other = get_or-map (λ i. input_by new (level new) i t) r.inputs p no_input 0 found.1 in
          found.2 (sym one ∙ ap (λ (xs : List ℕ). slice_index_or xs p 0) (sym was ∙ same ∙ now) ∙ other);
    }
