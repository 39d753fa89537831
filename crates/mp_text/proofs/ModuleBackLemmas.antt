-- The lines of modules lead where the edits of the modules lead.
use Rattle.mp_text.proofs.Names.{◌≡◌, ◌^◌, ◌<◌, ◌≤◌, ◌==◌, ◌∷◌, ◌++◌, ℕ, true, List, length, map, All, Option, Some, None, Ok, decimal, refl, arith, inl, inr, codes, nat_lt, IsTrue, IsSome, IfSome, list_all, cases_Bool, eqb-true, append-nil, All-cons, All-map, All-append, All-get_or, All-from_get_or, All-weaker, Kind, some_input, some_output, param_bound-low, width_from_low, WireId, WireRecord, ModuleRecord, Input, Output, added_module, is_name, input_at, output_at, max_delay, Circuit, IsCircuit, IsModule, IsDelay, HasWidth, wire_at, module_at, width_of, module_width, HasNames, input_word, module_line, wire_name, delay_text, input_text, output_name, output_text, module_edits, has_kind, stated_edit, statement_of, Change, Module, IsPlain, IsPlain-append, IsPlain-decimal, IsPlain-name, and_parts, input_back, late_input_back, no_wire_back, wire_back, All-passing, ltb-true, nat_tests}
use Rattle.mp_modules.specs.Kinds.{word_of, param_bound, param_count, are_params, output_width}
use Rattle.mp_modules.specs.declared.kind.Kind.TheVariants as kinds
use Rattle.mp_modules.specs.declared.function.Function.TheVariants as functions
use Rattle.mp_netlist.specs.declared.format.Format.{Format as NetlistFormat}
use Rattle.mp_text.proofs.StatementBackLemmas.{name_no_greater, module_read}
use Rattle.mp_text.proofs.TextBackLemmas.{SlotLeads, leads_line}
use Rattle.mp_text.proofs.RecordBackLemmas.{wire_named, number_behind}

params_low : (kind : Kind) (width : ℕ) (params : List ℕ) → width ≤ 64 → IsTrue (are_params kind width params) → All (λ p. p < 2 ^ 64) params
unfolding are_params
params_low kind width params narrow ok =
    let bound = param_bound kind width in
    let high = param_bound-low kind width narrow in
    let below = (and_parts (length params == param_count kind) (list_all (λ param. nat_lt param bound) params) ok).1 in
    All-passing (λ param. nat_lt param bound) (λ p. p < 2 ^ 64) (λ param is. let less = ltb-true param bound is in omega (arith, less, high)) params below

-- the word of a kind
plain_kind : (kind : Kind) → IsPlain (word_of kind)
plain_kind (kinds.Function functions.Buf) = record { some = omega arith; plain = refl }
plain_kind _ = record { some = omega arith; plain = refl }

-- a wire that stands, if any
abbrev Stands : Circuit → Option WireId → Type 0
Stands n wire = IfSome wire (λ w. IsSome (wire_at n w.0))

wide : (n : Circuit) (r : ModuleRecord) (p : ℕ) (wire : Option WireId) → IfSome wire (λ w. HasWidth n w.0 (output_width r.kind (module_width n r) p)) → Stands n wire
wide n r p wire ok = grind (arith, nat_tests)

module _ (n : Circuit) (circuit : IsCircuit n) (named : HasNames n) where
  slot_narrow : (w : ℕ) (slot : Option WireRecord) → wire_at n w ≡ slot → width_of slot ≤ 64
  slot_narrow w None at = omega arith
  slot_narrow w (Some r) at = (circuit.wires_ok w r at).narrow

  output_plain : (wire : Option WireId) (delay : ℕ) → delay ≤ max_delay → Stands n wire → IsPlain (output_name n wire ++ (47 ∷ decimal delay))
  output_plain None delay low stands = IsPlain-append (codes "-") (47 ∷ decimal delay) (record { some = omega arith; plain = refl }) (number_behind 47 delay refl (omega (arith, low)))
  output_plain (Some w) delay low stands =
      IsPlain-append (wire_name n w) (47 ∷ decimal delay) (IsPlain-name (wire_name n w) (wire_named n circuit named w stands)) (number_behind 47 delay refl (omega (arith, low)))

  -- a name, with a delay behind it where there is one
  named_back : (name : List ℕ) (delay : ℕ) → is_name name ≡ true → delay ≤ max_delay → input_word (name ++ delay_text delay) ≡ Ok (record { wire = name; delay = delay })
  named_back name delay valid low = grind (arith, cases_Bool, eqb-true, append-nil, input_back, late_input_back, IsPlain-name)

  named_plain : (name : List ℕ) (delay : ℕ) → is_name name ≡ true → delay ≤ max_delay → IsPlain (name ++ delay_text delay)
  named_plain name delay valid low = elim (cases_Bool (delay == 0)) as (λ _. IsPlain (name ++ delay_text delay)) [
    | inl none ↦ rw none (rw append-nil (IsPlain-name name valid))
    | inr some ↦ rw some (IsPlain-append name (47 ∷ decimal delay) (IsPlain-name name valid) (number_behind 47 delay refl (omega (arith, low))))
  ]

  -- an input at a wire with a name
  abbrev IsInput : Input → Type 0
  IsInput i = (is_name (wire_name n i.wire) ≡ true) × (i.delay ≤ max_delay)

  abbrev IsOutput : Output → Type 0
  IsOutput o = (o.delay ≤ max_delay) × Stands n o.wire

  module _ (f : NetlistFormat) (m : ℕ) (r : ModuleRecord) (at : module_at n m ≡ Some r) (ok : IsModule n r) (has : has_kind f r.kind ≡ true) where
    abbrev params_words : List (List ℕ)
    params_words = map decimal r.params

    abbrev input_words : List (List ℕ)
    input_words = map (input_text n) r.inputs

    abbrev output_words : List (List ℕ)
    output_words = map (output_text n) r.outputs

    abbrev behind_colon : List (List ℕ)
    behind_colon = input_words ++ (codes ">" ∷ output_words)

    params_ok : All (λ p. p < 2 ^ 64) r.params
    params_ok = params_low r.kind (module_width n r) r.params (width_from_low r.kind _ (slot_narrow (input_at r 0).wire.0 (wire_at n (input_at r 0).wire.0) refl)) ok.params

    inputs_ok : All IsInput r.inputs
    inputs_ok = grind (arith, All-from_get_or, wire_named, All-get_or)

    outputs_ok : All IsOutput r.outputs
    outputs_ok = All-from_get_or IsOutput r.outputs (record { wire = None; delay = 1 })
        (λ p within. ((All-get_or (λ o. IsDelay o.delay) r.outputs p (record { wire = None; delay = 1 }) within ok.delays).1, wide n r p (output_at r p).wire (ok.drives p)))

    plain_words : All IsPlain (r.name ∷ word_of r.kind ∷ (params_words ++ (codes ":" ∷ behind_colon)))
    plain_words =
        let kind = plain_kind r.kind in
        let outs = All-map IsPlain (output_text n) r.outputs (All-weaker IsOutput (λ o. IsPlain (output_text n o)) (λ o low. output_plain o.wire o.delay low.0 low.1) r.outputs outputs_ok) in
        let ins = All-map IsPlain (input_text n) r.inputs (All-weaker IsInput (λ i. IsPlain (input_text n i)) (λ i is. named_plain (wire_name n i.wire) i.delay is.0 is.1) r.inputs inputs_ok) in
        let numbers = All-map IsPlain decimal r.params (All-weaker (λ p. p < 2 ^ 64) (λ p. IsPlain (decimal p)) IsPlain-decimal r.params params_ok) in
        let back = All-append IsPlain input_words (codes ">" ∷ output_words) ins (All-cons IsPlain (codes ">") output_words (record { some = omega arith; plain = refl }) outs) in
        let rest = All-append IsPlain params_words (codes ":" ∷ behind_colon) numbers (All-cons IsPlain (codes ":") behind_colon (record { some = omega arith; plain = refl }) back) in
        All-cons IsPlain r.name (word_of r.kind ∷ (params_words ++ (codes ":" ∷ behind_colon))) (IsPlain-name r.name (named.modules m r at)) (All-cons IsPlain (word_of r.kind) (params_words ++ (codes ":" ∷ behind_colon)) kind rest)

    module_again : stated_edit f Module (r.name ∷ word_of r.kind ∷ (params_words ++ (codes ":" ∷ behind_colon))) ≡ Ok (added_module n r)
    module_again = grind (arith, nat_tests, has, All-weaker, no_wire_back, wire_named, wire_back, IsPlain-name, outputs_ok, some_input, some_output, name_no_greater, inputs_ok, named_back, module_read, params_ok)

  pub module_leads : (f : NetlistFormat) → ((m : ℕ) (r : ModuleRecord) → module_at n m ≡ Some r → has_kind f r.kind ≡ true)
      → (m : ℕ) (r : ModuleRecord) → module_at n m ≡ Some r → SlotLeads f (module_line n) (module_edits n) (Some r)
  unfolding statement_of
  module_leads f has m r at =
      let ok = circuit.modules_ok m r at in
      let words = r.name ∷ word_of r.kind ∷ (map decimal r.params ++ (codes ":" ∷ (map (input_text n) r.inputs ++ (codes ">" ∷ map (output_text n) r.outputs)))) in
      let says : statement_of (codes "module" ∷ words) ≡ Change Module words = refl in
      record {
        each = leads_line f (codes "module") words (added_module n r) Module (record { some = omega arith; plain = refl }) (plain_words f m r at ok (has m r at)) says (module_again f m r at ok (has m r at));
      }
