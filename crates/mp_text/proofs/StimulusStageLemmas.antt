-- The edits of what is set on a netlist's wires, once its modules are added, are not refused.
use Rattle.mp_text.proofs.Names.{◌≡◌, ◌<◌, ◌∷◌, ◌++◌, ℕ, true, not, List, [], append_assoc, length, get_or, All, Option, Some, None, Ok, is_some, unwrap_or, refl, sym, ap, subst, ◌∙◌, IsTrue, IfSome, flat_map, append-nil, get_or_at, set_at, flat_map-append, WireId, WireRecord, ModuleRecord, SetStimulus, output_in, number_named, Circuit, IsCircuit, Drives, wire_at, stimulus_in, stimulus_at, HasNames, driver, is_port, name_in, wire_name, module_edits, set_edits, stimulus_edits, is_stimulus, refusal, edited, after_single, stands, wire_id, width_named, stimulus_checks, with_stimulus, without_stimulus, arith, nat_tests}
use Rattle.mp_text.proofs.SlotLemmas.{compact, compact-none, length-compact, named_behind, front_unnamed, compact_unnamed}
use Rattle.mp_text.proofs.StageLemmas.{none_failing, is_done, Reaches, Reaches-none, Reaches-one, Steps, stage}
use Rattle.mp_text.proofs.OutputLemmas.{DrivesNone, undriven_by_name, drives_none, is_no_port}
use Rattle.mp_text.proofs.WireStageLemmas.{name_of, bare, made, same_wire}
use Rattle.mp_text.proofs.ModuleStageLemmas.{drive_stands}

-- a wire with what is set on it
abbrev pub kept : Option WireRecord → List (Option WireRecord)
kept slot = compact (λ (r : WireRecord). r) slot

module _ (n : Circuit) (circuit : IsCircuit n) (named : HasNames n) (modules : List (Option ModuleRecord))
    (same : flat_map (module_edits (made n (flat_map bare n.wires) [] [])) modules ≡ flat_map (module_edits n) n.modules) where
  -- the wires of the front have what is set on them, and those behind nothing yet
  abbrev AtStimuli : List (Option WireRecord) → List (Option WireRecord) → Circuit → Type 0
  AtStimuli front back c = c ≡ made n (flat_map kept front ++ flat_map bare back) modules []

  module _ (front back : List (Option WireRecord)) (r : WireRecord) (split : n.wires ≡ front ++ Some r ∷ back) where
    abbrev before : List (Option WireRecord)
    before = flat_map kept front

    abbrev behind : List (Option WireRecord)
    behind = flat_map bare back

    abbrev c : Circuit
    c = made n (before ++ Some (without_stimulus r) ∷ behind) modules []

    -- the netlist before anything is set
    abbrev unset : Circuit
    unset = made n (flat_map bare n.wires) modules []

    now_set : flat_map kept (front ++ Some r ∷ []) ++ behind ≡ before ++ Some r ∷ behind
    now_set = ap (λ wires. wires ++ behind) (flat_map-append kept front (Some r ∷ [])) ∙ append_assoc before (Some r ∷ []) behind

    at : wire_at n (length front) ≡ Some r
    at = ap (λ xs. get_or xs (length front) None) split ∙ get_or_at front (Some r) back None (length front) refl

    number_found : number_named name_of (before ++ Some (without_stimulus r) ∷ behind) r.name ≡ Some (length before)
    number_found = named_behind name_of before behind (without_stimulus r) r.name
        (compact_unnamed name_of (λ s. s) (λ s. refl) r.name front (front_unnamed name_of n.wires front back r named.one_wire split)) refl

    place : (wire_id c r.name).0 ≡ length before
    place = ap (λ (found : Option ℕ). unwrap_or found 0) number_found

    slot : wire_at c (length before) ≡ Some (without_stimulus r)
    slot = get_or_at before (Some (without_stimulus r)) behind None (length before) refl

    unset_name : name_in (wire_at unset (wire_id c r.name).0) ≡ r.name
    unset_name =
        let long : length (flat_map bare front) ≡ length before = length-compact without_stimulus (λ (s : WireRecord). s) front in
        grind (arith, place, split, (flat_map-append bare front (Some r ∷ back)), (get_or_at (flat_map bare front) (Some (without_stimulus r)) behind None (length before) long))

    module _ (changes : List (ℕ × ℕ)) (set : r.stimulus ≡ Some changes) where
      nobody : (k p : ℕ) (s : ModuleRecord) (w : WireId) → k < length n.modules → get_or n.modules k None ≡ Some s → (output_in s.outputs p).wire ≡ Some w → wire_name n w ≡ r.name → ⊥
      nobody k p s w within there drives name =
          let stands = drive_stands n circuit named k p s w there drives in
          let wires = same_wire n named w.0 (length front) stands (ap is_some at) (name ∙ sym (ap name_in at)) in
          let none = circuit.port_or_stimulus k p w.0 (record { part = s; stands = there; output = drives }) in
          let some : stimulus_at n w.0 ≡ Some changes = ap (stimulus_at n) wires ∙ ap stimulus_in at ∙ set in
          cc

      undriven : (k p : ℕ) → Drives c k p (wire_id c r.name).0 → ⊥
      undriven k p drives =
          let all = subst (All (DrivesNone r.name)) (sym same) (drives_none n r.name n.modules nobody) in
          undriven_by_name unset (wire_id c r.name).0 r.name unset_name all k p (record { part = drives.part; stands = drives.stands; output = drives.output })

      stimulus_done : after_single c (SetStimulus r.name changes) ≡ Ok (made n (before ++ Some r ∷ behind) modules [])
      unfolding refusal edited
      stimulus_done =
          let found : stands c r.name ≡ true = ap is_some number_found in
          let free : not (is_port (driver c (wire_id c r.name).0)) ≡ true = ap not (is_no_port c (wire_id c r.name).0 undriven) in
          let ok = subst (λ stimulus. IfSome stimulus (λ (changes : List (ℕ × ℕ)). IsTrue (is_stimulus n.horizon r.width 0 changes))) set (circuit.wires_ok (length front) r at).stimulus in
          let valid : is_stimulus n.horizon (width_named c r.name) 0 changes ≡ true = grind (arith, number_found, slot, ok) in
          let done = is_done c (SetStimulus r.name changes) (none_failing (stimulus_checks c r.name changes) (found, (free, (valid, tt)))) in
          grind (arith, done, place, slot, set, (set_at before (Some (without_stimulus r)) behind (Some (with_stimulus changes (without_stimulus r))) (length before) refl))

    -- the netlist once the wire has what is set on it
    wire_set : (stimulus : Option (List (ℕ × ℕ))) → r.stimulus ≡ stimulus → Reaches (AtStimuli (front ++ Some r ∷ []) back) c (set_edits r.name stimulus)
    wire_set None none = grind (arith, nat_tests, Reaches-none, now_set)
    wire_set (Some changes) set = grind (arith, nat_tests, Reaches-one, stimulus_done, now_set)

  stimulus_step : Steps n.wires stimulus_edits AtStimuli
  stimulus_step front back None split d so =
      Reaches-none (AtStimuli (front ++ None ∷ []) back) d (so ∙ ap (λ wires. made n (wires ++ flat_map bare back) modules []) (sym (compact-none (λ (r : WireRecord). r) front)))
  stimulus_step front back (Some r) split d so =
      subst (λ e. Reaches (AtStimuli (front ++ Some r ∷ []) back) e (stimulus_edits (Some r))) (sym so) (wire_set front back r split r.stimulus refl)

  -- what is set on the wires is set
  pub stimuli_reached : Reaches (λ c. c ≡ made n (flat_map kept n.wires) modules []) (made n (flat_map bare n.wires) modules []) (flat_map stimulus_edits n.wires)
  stimuli_reached =
      let all = stage n.wires stimulus_edits AtStimuli stimulus_step n.wires [] refl (made n (flat_map bare n.wires) modules []) refl in
      record { goal = all.goal; holds = all.holds ∙ ap (λ wires. made n wires modules []) (append-nil (flat_map kept n.wires)); leads = all.leads }
