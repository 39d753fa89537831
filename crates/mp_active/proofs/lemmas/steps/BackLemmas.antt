-- What is put back into a slot.
use Rattle.std.proofs.Common.{◌≡◌, ◌≢◌, ℕ, ◌<◌, Bool, true, false, List, [], ◌∷◌, ◌++◌, cond, length, map, refl, ap, sym, subst, ◌∙◌, arith, get_or-set_same, get_or-set_other}
use Rattle.std.specs.Prelude.{◌==◌, slice_index_or, slice_set}
use Rattle.std.proofs.lemmas.Bool.{eqb-true, eqb-false}
use Rattle.std.proofs.lemmas.List.{length-set, append-nil, append_assoc}
use Rattle.mp_kernel.specs.events.Firing.{scheduled}
use Rattle.mp_kernel.specs.events.EventWheels.{with_entry}
use Rattle.mp_kernel.specs.declared.datapath.level_change.LevelChange.{LevelChange}
use Rattle.mp_kernel.specs.datapath.LevelWheels.{scheduled as levels_scheduled, with_entry as with_level_entry}
use Rattle.mp_active.specs.steps.Taking.{in_slot, in_level_slot, PutsBack, PutsLevelsBack}

-- ---- wires of width 1
here : (slots : List (List ℕ)) (units : ℕ) (wires : List ℕ) → units < length slots →
    slice_index_or (scheduled slots (map (in_slot units) wires)) units [] ≡ slice_index_or slots units [] ++ wires
here slots units [] low = sym (append-nil (slice_index_or slots units []))
here slots units (w ∷ wires) low =
    let long = length-set slots units (slice_index_or slots units [] ++ w ∷ []) in
    here (with_entry slots units w) units wires (omega (arith, low, long))
    ∙ ap (λ (xs : List ℕ). xs ++ wires) (get_or-set_same slots units (slice_index_or slots units [] ++ w ∷ []) [] low)
    ∙ append_assoc (slice_index_or slots units []) (w ∷ []) wires

else : (slots : List (List ℕ)) (units k : ℕ) (wires : List ℕ) → k ≢ units → slice_index_or (scheduled slots (map (in_slot units) wires)) k [] ≡ slice_index_or slots k []
else slots units k [] other = refl
else slots units k (w ∷ wires) other = else (with_entry slots units w) units k wires other ∙ get_or-set_other slots units k (slice_index_or slots units [] ++ w ∷ []) [] other

back_by : (slots : List (List ℕ)) (units k : ℕ) (wires : List ℕ) (same : Bool) → (k == units) ≡ same → units < length slots →
    slice_index_or (scheduled (slice_set slots units []) (map (in_slot units) wires)) k [] ≡ cond same wires (slice_index_or slots k [])
back_by slots units k wires true is low =
    let long = length-set slots units [] in
    subst (λ j. slice_index_or (scheduled (slice_set slots units []) (map (in_slot units) wires)) j [] ≡ wires) (sym (eqb-true k units is))
    (here (slice_set slots units []) units wires (omega (arith, low, long)) ∙ ap (λ (xs : List ℕ). xs ++ wires) (get_or-set_same slots units [] [] low))
back_by slots units k wires false is low = else (slice_set slots units []) units k wires (eqb-false k units is) ∙ get_or-set_other slots units k [] [] (eqb-false k units is)

pub puts_back : PutsBack
puts_back slots units k wires low = back_by slots units k wires (k == units) refl low

-- ---- wires with data
level_here : (slots : List (List LevelChange)) (units : ℕ) (changes : List LevelChange) → units < length slots →
    slice_index_or (levels_scheduled slots (map (in_level_slot units) changes)) units [] ≡ slice_index_or slots units [] ++ changes
level_here slots units [] low = sym (append-nil (slice_index_or slots units []))
level_here slots units (c ∷ changes) low =
    let long = length-set slots units (slice_index_or slots units [] ++ c ∷ []) in
    level_here (with_level_entry slots units c) units changes (omega (arith, low, long))
    ∙ ap (λ (xs : List LevelChange). xs ++ changes) (get_or-set_same slots units (slice_index_or slots units [] ++ c ∷ []) [] low)
    ∙ append_assoc (slice_index_or slots units []) (c ∷ []) changes

level_else : (slots : List (List LevelChange)) (units k : ℕ) (changes : List LevelChange) → k ≢ units →
    slice_index_or (levels_scheduled slots (map (in_level_slot units) changes)) k [] ≡ slice_index_or slots k []
level_else slots units k [] other = refl
level_else slots units k (c ∷ changes) other =
    level_else (with_level_entry slots units c) units k changes other ∙ get_or-set_other slots units k (slice_index_or slots units [] ++ c ∷ []) [] other

level_back : (slots : List (List LevelChange)) (units k : ℕ) (changes : List LevelChange) (same : Bool) → (k == units) ≡ same → units < length slots →
    slice_index_or (levels_scheduled (slice_set slots units []) (map (in_level_slot units) changes)) k [] ≡ cond same changes (slice_index_or slots k [])
level_back slots units k changes true is low =
    let long = length-set slots units [] in
    subst (λ j. slice_index_or (levels_scheduled (slice_set slots units []) (map (in_level_slot units) changes)) j [] ≡ changes) (sym (eqb-true k units is))
    (level_here (slice_set slots units []) units changes (omega (arith, low, long)) ∙ ap (λ (xs : List LevelChange). xs ++ changes) (get_or-set_same slots units [] [] low))
level_back slots units k changes false is low =
    level_else (slice_set slots units []) units k changes (eqb-false k units is) ∙ get_or-set_other slots units k [] [] (eqb-false k units is)

pub puts_levels_back : PutsLevelsBack
puts_levels_back slots units k changes low = level_back slots units k changes (k == units) refl low
