-- The edits of a netlist's wires, on an empty netlist, are not refused.
use Rattle.mp_text.proofs.Names.{◌≡◌, ◌<◌, ◌∷◌, ◌++◌, ℕ, suc, true, List, [], length, get_or, Option, Some, None, is_none, Ok, refl, sym, ap, subst, ◌∙◌, arith, length-append, IsSome, flat_map, nat_tests, get_or_at, flat_map-append, WireId, WireRecord, ModuleRecord, BundleRecord, AddWire, Circuit, IsCircuit, wire_at, width_of, stimulus_in, HasNames, name_in, wire_name, wire_edits, and_from, refusal, edited, after_single, stands, wire_id, width_named, wire_checks, without_stimulus, wire_limit, written_format}
use Rattle.mp_text.proofs.FormatLemmas.{wires_fit}
use Rattle.mp_text.proofs.SlotLemmas.{compact, compact-none, compact_few, IsAt, IsAt-compact, named_nowhere, front_unnamed, compact_unnamed}
use Rattle.mp_text.proofs.StageLemmas.{none_failing, is_done, Reaches, Reaches-none, Reaches-one, Steps, stage}

abbrev pub name_of : WireRecord → List ℕ
name_of r = r.name

-- a wire without what is set on it
abbrev pub bare : Option WireRecord → List (Option WireRecord)
bare slot = compact without_stimulus slot

-- a netlist with these records, of the format in which they are written
abbrev pub made : Circuit → List (Option WireRecord) → List (Option ModuleRecord) → List (Option BundleRecord) → Circuit
made n wires modules bundles = record { format = written_format n; horizon = n.horizon; wires = wires; modules = modules; bundles = bundles }

-- a wire of the one netlist has its name and its width in the other
pub record IsKept (c : Circuit) (r : WireRecord) : Type 0 where
  pub thing : WireRecord
  pub called : thing.name ≡ r.name
  pub width : thing.width ≡ r.width
  pub there : IsAt name_of c.wires r.name thing

pub record HasWires (n c : Circuit) : Type 0 where
  pub each : (w : ℕ) (r : WireRecord) → wire_at n w ≡ Some r → IsKept c r

-- what the name of a wire finds in the other netlist
pub record IsBack (n c : Circuit) (w : WireId) : Type 0 where
  pub found : stands c (wire_name n w) ≡ true
  pub width : width_named c (wire_name n w) ≡ width_of (wire_at n w.0)
  pub name : wire_name c (wire_id c (wire_name n w)) ≡ wire_name n w

pub is_back : (n c : Circuit) → HasWires n c → (w : WireId) → IsSome (wire_at n w.0) → IsBack n c w
is_back n c has w some = by (wire_at n w.0) refl some
  where
    by : (slot : Option WireRecord) → wire_at n w.0 ≡ slot → IsSome slot → IsBack n c w
    by None at some = cc
    by (Some r) at some =
        let kept = has.each w.0 r at in
        grind (arith, nat_tests, at, kept.there.named, kept.there.at, kept.called, kept.width)

-- two wires of one name are one
pub same_wire : (n : Circuit) → HasNames n → (w v : ℕ) → IsSome (wire_at n w) → IsSome (wire_at n v) → name_in (wire_at n w) ≡ name_in (wire_at n v) → w ≡ v
same_wire n named w v first second same = grind (arith, nat_tests)

-- nothing is set on bare wires
pub bare_unset : (slots : List (Option WireRecord)) (v : ℕ) → stimulus_in (get_or (flat_map bare slots) v None) ≡ None
bare_unset (None ∷ slots) v = grind (arith, nat_tests, (bare_unset slots v))
bare_unset (Some r ∷ slots) (suc v) = grind (arith, nat_tests, (bare_unset slots v))
bare_unset slots v = refl

module _ (n : Circuit) (circuit : IsCircuit n) (named : HasNames n) where
  -- the netlist once the wires of the front are added
  abbrev pub wired : List (Option WireRecord) → Circuit
  wired front = made n (flat_map bare front) [] []

  wire_done : (front back : List (Option WireRecord)) (r : WireRecord) → n.wires ≡ front ++ Some r ∷ back → after_single (wired front) (AddWire r.name r.width r.initial) ≡ Ok (wired (front ++ Some r ∷ []))
  unfolding refusal edited
  wire_done front back r same =
      let at : wire_at n (length front) ≡ Some r = ap (λ xs. get_or xs (length front) None) same ∙ get_or_at front (Some r) back None (length front) refl in
      let ok = circuit.wires_ok (length front) r at in
      let free = named_nowhere name_of r.name (flat_map bare front) (compact_unnamed name_of without_stimulus (λ s. refl) r.name front (front_unnamed name_of n.wires front back r named.one_wire same)) in
      let few : length front < wire_limit (written_format n) = omega (arith, ap length same, length-append front (Some r ∷ back), circuit.wires_few, wires_fit n) in
      let none = none_failing (wire_checks (wired front) r.name r.width r.initial)
      (grind (arith, nat_tests, and_from, (named.wires (length front) r at), (ap is_none free), ok.wide, ok.narrow, ok.level, (compact_few without_stimulus front))) in
      is_done (wired front) (AddWire r.name r.width r.initial) none
      ∙ ap (λ wires. Ok (made n wires [] [])) (sym (flat_map-append bare front (Some r ∷ [])))

  abbrev AtWires : List (Option WireRecord) → List (Option WireRecord) → Circuit → Type 0
  AtWires front back c = c ≡ wired front

  wire_step : Steps n.wires wire_edits AtWires
  wire_step front back None same c at =
      Reaches-none (λ d. d ≡ wired (front ++ None ∷ [])) c (at ∙ ap (λ wires. made n wires [] []) (sym (compact-none without_stimulus front)))
  wire_step front back (Some r) same c at = grind (arith, nat_tests, Reaches-one, wire_done)

  -- the wires are added
  pub wires_reached : Reaches (λ c. c ≡ wired n.wires) (wired []) (flat_map wire_edits n.wires)
  wires_reached = stage n.wires wire_edits AtWires wire_step n.wires [] refl (wired []) refl

  -- a netlist with the wires of the other, changed but for names and widths
  pub HasWires-compact : (change : WireRecord → WireRecord) → ((r : WireRecord) → (change r).name ≡ r.name) → ((r : WireRecord) → (change r).width ≡ r.width)
      → (c : Circuit) → c.wires ≡ flat_map (compact change) n.wires → HasWires n c
  HasWires-compact change names widths c same = record {
    each = λ w r at. record {
      thing = change r;
      called = names r;
      width = widths r;
      there = subst (λ xs. IsAt name_of xs r.name (change r)) (sym same) (IsAt-compact name_of change names n.wires named.one_wire w r at);
    };
  }
