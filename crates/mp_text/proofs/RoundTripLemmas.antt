-- The text of a netlist is read as the edits of its records.
use Rattle.mp_text.proofs.Names.{◌^◌, ◌<◌, ◌≡◌, ◌+◌, ◌≤◌, ◌∷◌, ◌++◌, ℕ, List, [], length, All, Ok, Bool, true, false, cond, decimal, refl, sym, ap, subst, ◌∙◌, arith, codes, nat_le, nat_tests, flat_map, append-nil, All-cons, All-nil, SingleEdit, Circuit, IsCircuit, empty_circuit, HasNames, lines_of, wire_edits, module_edits, stimulus_edits, bundle_edits, edits_by_name, IsReadAs, IsReadAsWritten, IsPlain, IsPlain-decimal, max_first_horizon, Start, Second, TextState, Fresh, Formatted, Open, after_statement, after_lines, next_line, written, written_line, format_line, horizon_line, wire_line, module_line, stimulus_line, bundle_line, statement_of, Standard, Large, horizon_limit, horizon_within, netlist_format, max_horizon_of, text_limit, TextFormat, Fourth, written_format}
use Rattle.mp_text.proofs.FormatLemmas.{horizon_fits, kinds_fit}
use Rattle.mp_netlist.specs.declared.format.Format.{Format as NetlistFormat}
use Rattle.mp_text.proofs.WrittenLineLemmas.{lines_of-written}
use Rattle.mp_streams.specs.Numbers.{spelled_number, number_from}
use Rattle.mp_text.proofs.StatementBackLemmas.{horizon_stated}
use Rattle.mp_text.proofs.TextBackLemmas.{Leads, leads_nowhere, leads_slots, line_stated}
use Rattle.mp_text.proofs.RecordBackLemmas.{wire_leads, stimulus_leads, bundle_leads}
use Rattle.mp_text.proofs.ModuleBackLemmas.{module_leads}
use Rattle.mp_text.proofs.SameRecordLemmas.{made_again}
use Rattle.mp_text.proofs.TextLemmas.{text_within}

-- a horizon that a text of the first form may state
opens_short : (h : ℕ) → 1 ≤ h → nat_le h max_first_horizon ≡ true → after_statement Fresh (Start (Ok h)) ≡ Ok (Open (empty_circuit Standard h))
unfolding after_statement
opens_short h low most = let one : nat_le 1 h ≡ true = grind (arith, nat_tests) in rw (one, most) refl

-- a horizon that a text of that form may state
opens_formatted : (form : TextFormat) (h : ℕ) → 1 ≤ h → h ≤ max_horizon_of form → after_statement (Formatted form) (Start (Ok h)) ≡ Ok (Open (empty_circuit (netlist_format form) h))
unfolding after_statement
opens_formatted form h low high = grind (arith, nat_tests)

-- a line of two words in front of others
line_begins : (k : ℕ) (state next : TextState) (first word rest : List ℕ) → IsPlain first → IsPlain word → after_statement state (statement_of (first ∷ word ∷ [])) ≡ Ok next
    → after_lines k state (lines_of (written_line first (word ∷ []) ++ rest)) ≡ after_lines (k + 1) next (lines_of rest)
unfolding after_lines
line_begins k state next first word rest plain other said =
    let all : All IsPlain (word ∷ []) = All-cons IsPlain word [] other (All-nil IsPlain) in
    ap (after_lines k state) (lines_of-written first (word ∷ []) rest plain all)
    ∙ ap (next_line k (λ after. after_lines (k + 1) after (lines_of rest))) (line_stated state first (word ∷ []) plain all ∙ said)

second_formed : after_statement Fresh (statement_of (codes "format" ∷ codes "2" ∷ [])) ≡ Ok (Formatted Second)
unfolding after_statement statement_of spelled_number number_from
second_formed = refl

fourth_formed : after_statement Fresh (statement_of (codes "format" ∷ codes "4" ∷ [])) ≡ Ok (Formatted Fourth)
unfolding after_statement statement_of spelled_number number_from
fourth_formed = refl

module _ (n : Circuit) (circuit : IsCircuit n) (named : HasNames n) where
  -- the lines of the records
  abbrev record_lines : List ℕ
  record_lines = flat_map wire_line n.wires ++ (flat_map (module_line n) n.modules ++ (flat_map stimulus_line n.wires ++ flat_map (bundle_line n) n.bundles))

  records_lead : Leads (written_format n) record_lines (edits_by_name n)
  records_lead =
      let f = written_format n in
      let none = λ (bytes : List ℕ) (edits : List SingleEdit) (rest : Leads f bytes edits). rest in
      let bundle_bytes = flat_map (bundle_line n) n.bundles in
      let bundle_changes = flat_map (bundle_edits n) n.bundles in
      let nil = leads_slots f (bundle_line n) (bundle_edits n) n.bundles [] [] (record { each = none }) (bundle_leads f n circuit named) (leads_nowhere f) in
      let bundles = subst (λ bs. Leads f bs bundle_changes) (append-nil bundle_bytes) (subst (λ es. Leads f (bundle_bytes ++ []) es) (append-nil bundle_changes) nil) in
      let stimuli = leads_slots f stimulus_line stimulus_edits n.wires bundle_bytes bundle_changes (record { each = none }) (stimulus_leads f n circuit named) bundles in
      let modules =
      leads_slots f (module_line n) (module_edits n) n.modules (flat_map stimulus_line n.wires ++ bundle_bytes) (flat_map stimulus_edits n.wires ++ bundle_changes) (record { each = none })
      (module_leads n circuit named f (kinds_fit n)) stimuli in
      leads_slots f wire_line wire_edits n.wires (flat_map (module_line n) n.modules ++ (flat_map stimulus_line n.wires ++ bundle_bytes))
      (flat_map (module_edits n) n.modules ++ (flat_map stimulus_edits n.wires ++ bundle_changes)) (record { each = none }) (wire_leads f n circuit named) modules

  -- the line of the horizon begins an empty netlist
  horizon_begins : (k : ℕ) (state : TextState) (rest : List ℕ) → after_statement state (Start (Ok n.horizon)) ≡ Ok (Open (empty_circuit (written_format n) n.horizon))
      → after_lines k state (lines_of (horizon_line n.horizon ++ rest)) ≡ after_lines (k + 1) (Open (empty_circuit (written_format n) n.horizon)) (lines_of rest)
  horizon_begins k state rest opens =
      let low : n.horizon < 2 ^ 64 = omega (arith, horizon_within n circuit) in
      line_begins k state _ (codes "horizon") (decimal n.horizon) rest (record { some = omega arith; plain = refl }) (IsPlain-decimal n.horizon low)
      (ap (after_statement state) (horizon_stated n.horizon low) ∙ opens)

  -- some lines in front of the rest begin an empty netlist
  abbrev Begins : List ℕ → List ℕ → Type 0
  Begins front rest = (k : ℕ) × (after_lines 0 Fresh (lines_of (front ++ (horizon_line n.horizon ++ rest))) ≡ after_lines k (Open (empty_circuit (written_format n) n.horizon)) (lines_of rest))

  -- the line of a form that states such a netlist
  begins_formed : (digit rest : List ℕ) (form : TextFormat) → IsPlain digit → after_statement Fresh (statement_of (codes "format" ∷ digit ∷ [])) ≡ Ok (Formatted form)
      → written_format n ≡ netlist_format form → n.horizon ≤ max_horizon_of form → Begins (written_line (codes "format") (digit ∷ [])) rest
  begins_formed digit rest form plain formed is high = (
    0 + 1 + 1,
    line_begins 0 Fresh (Formatted form) (codes "format") digit (horizon_line n.horizon ++ rest) (record { some = omega arith; plain = refl }) plain formed
        ∙ horizon_begins (0 + 1) (Formatted form) rest (opens_formatted form n.horizon circuit.horizon_low high ∙ ap (λ f. Ok (Open (empty_circuit f n.horizon))) (sym is)),
  )

  high : n.horizon ≤ horizon_limit (written_format n)
  high = omega (arith, circuit.horizon_high, horizon_fits n)

  -- the lines in front of the records
  begins : (rest : List ℕ) → Begins (format_line (written_format n) n.horizon) rest
  begins rest = by (written_format n) refl
    where
      standard : written_format n ≡ Standard → (short : Bool) → nat_le n.horizon max_first_horizon ≡ short → Begins (cond short [] (written_line (codes "format") (codes "2" ∷ []))) rest
      standard is true short = (0 + 1, horizon_begins 0 Fresh rest (opens_short n.horizon circuit.horizon_low short ∙ ap (λ f. Ok (Open (empty_circuit f n.horizon))) (sym is)))
      standard is false long =
          begins_formed (codes "2") rest Second (record { some = omega arith; plain = refl }) second_formed is (subst (λ f. n.horizon ≤ horizon_limit f) is high)

      by : (f : NetlistFormat) → written_format n ≡ f → Begins (format_line f n.horizon) rest
      by Standard is = standard is (nat_le n.horizon max_first_horizon) refl
      by Large is = begins_formed (codes "4") rest Fourth (record { some = omega arith; plain = refl }) fourth_formed is (subst (λ f. n.horizon ≤ horizon_limit f) is high)

pub read_as_written : IsReadAsWritten
unfolding written
read_as_written n circuit short =
    let named = circuit.names in
    let made = made_again n circuit named in
    let begun = begins n circuit named (record_lines n circuit named) in
    let read =
    text_within (format_line (written_format n) n.horizon ++ (horizon_line n.horizon ++ record_lines n circuit named)) short ∙ begun.1
    ∙ (records_lead n circuit named).each begun.0 (empty_circuit (written_format n) n.horizon) made.again refl made.replayed in
    (made.again, read, made.same)

pub written_is_read : (n : Circuit) (text : List ℕ) → IsCircuit n → text ≡ written n → length text ≤ text_limit text → IsReadAs text n
written_is_read n text circuit same short = subst (λ t. IsReadAs t n) (sym same) (read_as_written n circuit (subst (λ t. length t ≤ text_limit t) same short))
