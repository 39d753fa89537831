-- The lines of records lead where the edits of the records lead.
use Rattle.mp_text.proofs.Names.{is_plain_byte, ◌≡◌, ◌^◌, ◌<◌, ◌≤◌, ◌∷◌, ◌++◌, ℕ, true, List, [], map, All, Option, Some, None, Ok, decimal, refl, arith, codes, nat_lt, IsTrue, IsSome, IfSome, nat_tests, All-cons, All-nil, All-map, All-weaker, WireId, WireRecord, BundleRecord, SingleEdit, AddWire, SetStimulus, is_name, max_horizon, Circuit, IsCircuit, wire_at, bundle_at, HasNames, change_word, pair_text, Change, Wire, Bundle, Stimulus, statement_of, wire_line, stimulus_line, bundle_line, stimulus_words, wire_name, wire_edits, stimulus_edits, set_edits, bundle_by_name, added_bundle, bundle_edits, IsPlain, IsPlain-append, IsPlain-decimal, IsPlain-name, and_parts, change_back, is_stimulus, horizon_within, All-from_recursion}
use Rattle.std.proofs.Math.Nat.{pow-le-pow_right}
use Rattle.mp_modules.specs.Levels.{fits_width}
use Rattle.mp_netlist.specs.declared.format.Format.{Format as NetlistFormat}
use Rattle.mp_text.proofs.StatementBackLemmas.{wire_read, stimulus_read, bundle_read}
use Rattle.mp_text.proofs.TextBackLemmas.{Leads, SlotLeads, leads_line}

-- a level of a width that a wire may have
pub level_low : (width level : ℕ) → width ≤ 64 → nat_lt level (2 ^ width) ≡ true → level < 2 ^ 64
level_low width level narrow below = grind (arith, pow-le-pow_right, nat_tests)

module _ (n : Circuit) (circuit : IsCircuit n) (named : HasNames n) where
  -- the name of a wire that stands
  pub wire_named : (w : WireId) → IsSome (wire_at n w.0) → is_name (wire_name n w) ≡ true
  wire_named w some = grind (arith, nat_tests)

  plain_name : (w : WireId) → IsSome (wire_at n w.0) → IsPlain (wire_name n w)
  plain_name w some = IsPlain-name (wire_name n w) (wire_named w some)

module _ (f : NetlistFormat) (n : Circuit) (circuit : IsCircuit n) (named : HasNames n) where
  pub wire_leads : (w : ℕ) (r : WireRecord) → wire_at n w ≡ Some r → SlotLeads f wire_line wire_edits (Some r)
  unfolding fits_width statement_of
  wire_leads w r at =
      let ok = circuit.wires_ok w r at in
      let width : r.width < 2 ^ 64 = omega (arith, ok.narrow) in
      let level = level_low r.width r.initial ok.narrow ok.level in
      let words = r.name ∷ decimal r.width ∷ decimal r.initial ∷ [] in
      let plain = All-from_recursion IsPlain words (IsPlain-name r.name (named.wires w r at), (IsPlain-decimal r.width width, (IsPlain-decimal r.initial level, tt))) in
      let wire_says : statement_of (codes "wire" ∷ words) ≡ Change Wire words = refl in
      record { each = leads_line f (codes "wire") words (AddWire r.name r.width r.initial) Wire (record { some = omega arith; plain = refl }) plain wire_says (wire_read f r.name r.width r.initial width level) }

  pub bundle_leads : (b : ℕ) (r : BundleRecord) → bundle_at n b ≡ Some r → SlotLeads f (bundle_line n) (bundle_edits n) (Some r)
  unfolding statement_of
  bundle_leads b r at =
      let ok = circuit.bundles_ok b r at in
      let setup : r.setup < 2 ^ 64 = omega (arith, ok.setup) in
      let words = r.name ∷ wire_name n r.request ∷ wire_name n r.acknowledge ∷ wire_name n r.payload ∷ decimal r.setup ∷ [] in
      let plain = All-from_recursion IsPlain words
      (IsPlain-name r.name (named.bundles b r at), (plain_name n circuit named r.request ok.request.0, (plain_name n circuit named r.acknowledge ok.acknowledge.0, (plain_name n circuit named r.payload ok.payload, (IsPlain-decimal r.setup setup, tt))))) in
      let says : statement_of (codes "bundle" ∷ words) ≡ Change Bundle words = refl in
      record { each = leads_line f (codes "bundle") words (added_bundle n r) Bundle (record { some = omega arith; plain = refl }) plain says (bundle_read f (bundle_by_name n r) setup) }

-- a time and a value that a stimulus may have
abbrev IsChange : ℕ × ℕ → Type 0
IsChange change = (change.0 < 2 ^ 64) × (change.1 < 2 ^ 64)

stimulus_low : (horizon width before : ℕ) (changes : List (ℕ × ℕ)) → horizon ≤ max_horizon → width ≤ 64 → is_stimulus horizon width before changes ≡ true → All IsChange changes
unfolding is_stimulus fits_width
stimulus_low horizon width before [] short narrow all = grind (arith, nat_tests, All-nil)
stimulus_low horizon width before (change ∷ changes) short narrow all = grind (arith, and_parts, nat_tests, All-cons, level_low, (stimulus_low horizon width change.0 changes short narrow))

-- a number behind a byte
pub number_behind : (b n : ℕ) → is_plain_byte b ≡ true → n < 2 ^ 64 → IsPlain (b ∷ decimal n)
number_behind b n plain low = IsPlain-append (b ∷ []) (decimal n) (record { some = omega arith; plain = rw plain refl }) (IsPlain-decimal n low)

pair_plain : (change : ℕ × ℕ) → IsChange change → IsPlain (pair_text change)
pair_plain change low = IsPlain-append (decimal change.0) (61 ∷ decimal change.1) (IsPlain-decimal change.0 low.0) (number_behind 61 change.1 refl low.1)

module _ (f : NetlistFormat) (n : Circuit) (circuit : IsCircuit n) (named : HasNames n) where
  set_leads : (name : List ℕ) (width : ℕ) → is_name name ≡ true → width ≤ 64 → (stimulus : Option (List (ℕ × ℕ)))
      → IfSome stimulus (λ changes. IsTrue (is_stimulus n.horizon width 0 changes)) → (bytes : List ℕ) (edits : List SingleEdit) → Leads f bytes edits
      → Leads f (stimulus_words name stimulus ++ bytes) (set_edits name stimulus ++ edits)
  unfolding statement_of
  set_leads name width valid narrow None ok bytes edits rest = rest
  set_leads name width valid narrow (Some changes) ok bytes edits rest =
      let low = stimulus_low n.horizon width 0 changes (horizon_within n circuit) narrow ok in
      let plain = All-cons IsPlain name (map pair_text changes) (IsPlain-name name valid) (All-map IsPlain pair_text changes (All-weaker IsChange (λ change. IsPlain (pair_text change)) pair_plain changes low)) in
      let read = All-weaker IsChange (λ change. change_word (pair_text change) ≡ Ok change) (λ change low. change_back change low.0 low.1) changes low in
      let says : statement_of (codes "stim" ∷ name ∷ map pair_text changes) ≡ Change Stimulus (name ∷ map pair_text changes) = refl in
      leads_line f (codes "stim") (name ∷ map pair_text changes) (SetStimulus name changes) Stimulus (record { some = omega arith; plain = refl }) plain says (stimulus_read f name changes read) bytes edits rest

  pub stimulus_leads : (w : ℕ) (r : WireRecord) → wire_at n w ≡ Some r → SlotLeads f stimulus_line stimulus_edits (Some r)
  stimulus_leads w r at =
      let ok = circuit.wires_ok w r at in
      record { each = set_leads r.name r.width (named.wires w r at) ok.narrow r.stimulus ok.stimulus }
