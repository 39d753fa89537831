-- What every edit keeps.
use Rattle.std.proofs.Common.{◌≡◌, ℕ, ◌+◌, ◌<◌, ◌≤◌, Bool, true, false, cond, List, [], ◌∷◌, ◌++◌, Option, None, Some, Result, Ok, Err, option_map, length, slice_set, refl, sym, subst, ◌∙◌, arith, inl, inr}
use Rattle.std.proofs.lemmas.Bool.{cases_lt, cases_eq}
use Rattle.std.proofs.lemmas.List.{get_or_append_left, length-append, get_or-set_same, get_or-set_other, set_past, length-set}
use Rattle.mp_records.specs.declared.wire_record.WireRecord.{WireRecord}
use Rattle.mp_records.specs.declared.module_record.ModuleRecord.{ModuleRecord}
use Rattle.mp_records.specs.declared.edit.Edit.TheVariants.{Single, Batch}
use Rattle.mp_records.specs.declared.single_edit.SingleEdit.{SingleEdit}
use Rattle.mp_records.specs.declared.single_edit.SingleEdit.TheVariants.{AddWire, RemoveWire, AddModule, RemoveModule, AddBundle, RemoveBundle, RewireInput, RewireOutput, SetInputDelay, SetDelay, SetStimulus, ClearStimulus}
use Rattle.mp_records.specs.declared.edit_error.EditError.{EditError}
use Rattle.mp_records.specs.declared.edit_error.EditError.TheVariants.{BadBatch}
use Rattle.mp_netlist.specs.Slots.{slot_at}
use Rattle.mp_netlist.specs.Circuit.{Circuit, wire_at}
use Rattle.mp_netlist.specs.Edits.{refusal, edited, unless, after_single, in_place, go_on, after_each, is_batch, wire_id, new_module, with_stimulus, without_stimulus}
use Rattle.mp_model.proofs.SlotLemmas.{slot_within}
use Rattle.mp_depend.specs.work.Revisions.{IsRevision, EditsRevise}

-- a slot that is empty stays so, and a wire keeps its width and initial level as long as it stands
abbrev IsSlotKept : Option WireRecord → Option WireRecord → Type 0
IsSlotKept None None = Unit {0}
IsSlotKept None (Some s) = ⊥
IsSlotKept (Some r) None = Unit {0}
IsSlotKept (Some r) (Some s) = (r.width ≡ s.width) × (r.initial ≡ s.initial)

slot_same : (slot : Option WireRecord) → IsSlotKept slot slot
slot_same None = tt
slot_same (Some r) = (refl, refl)

slot_emptied : (slot : Option WireRecord) → IsSlotKept slot None
slot_emptied None = tt
slot_emptied (Some r) = tt

slot_joined : (a b c : Option WireRecord) → IsSlotKept a b → IsSlotKept b c → IsSlotKept a c
slot_joined None None None first second = tt
slot_joined None None (Some t) first second = second
slot_joined None (Some s) None first second = tt
slot_joined None (Some s) (Some t) first second = first
slot_joined (Some r) None None first second = tt
slot_joined (Some r) None (Some t) first second = absurd second
slot_joined (Some r) (Some s) None first second = tt
slot_joined (Some r) (Some s) (Some t) first second = (first.0 ∙ second.0, first.1 ∙ second.1)

-- the numbers are kept, and what stands in the wires' slots
record AreKept (old new : Circuit) : Type 0 where
  horizon : new.horizon ≡ old.horizon
  wires : length old.wires ≤ length new.wires
  modules : length old.modules ≤ length new.modules
  slots : (w : ℕ) → w < length old.wires → IsSlotKept (wire_at old w) (wire_at new w)

kept_same : (n : Circuit) → AreKept n n
kept_same n = record { horizon = refl; wires = omega arith; modules = omega arith; slots = λ w low. slot_same (wire_at n w) }

kept_joined : (a b c : Circuit) → AreKept a b → AreKept b c → AreKept a c
kept_joined a b c first second = record {
  horizon = second.horizon ∙ first.horizon;
  wires = omega (arith, first.wires, second.wires);
  modules = omega (arith, first.modules, second.modules);
  slots = λ w low. slot_joined (wire_at a w) (wire_at b w) (wire_at c w) (first.slots w low) (second.slots w (omega (arith, low, first.wires)));
}

-- a slot that is written
slot_written : (wires : List (Option WireRecord)) (w : ℕ) (wire : Option WireRecord) → IsSlotKept (slot_at wires w) wire → (k : ℕ) → IsSlotKept (slot_at wires k) (slot_at (slice_set wires w wire) k)
slot_written wires w wire kept k = elim (cases_eq k w) as (λ _. IsSlotKept (slot_at wires k) (slot_at (slice_set wires w wire) k)) [
  | inl one ↦ subst (λ j. IsSlotKept (slot_at wires j) (slot_at (slice_set wires w wire) j)) (sym one) here
  | inr other ↦ subst (IsSlotKept (slot_at wires k)) (sym (get_or-set_other wires w k wire None other)) (slot_same (slot_at wires k))
]
  where
    here : IsSlotKept (slot_at wires w) (slot_at (slice_set wires w wire) w)
    here = elim (cases_lt w (length wires)) as (λ _. IsSlotKept (slot_at wires w) (slot_at (slice_set wires w wire) w)) [
      | inl within ↦ subst (IsSlotKept (slot_at wires w)) (sym (get_or-set_same wires w wire None within)) kept
      | inr past ↦ subst (λ xs. IsSlotKept (slot_at wires w) (slot_at xs w)) (sym (set_past wires w wire past)) (slot_same (slot_at wires w))
    ]

wire_written : (n : Circuit) (w : ℕ) (wire : Option WireRecord) → IsSlotKept (wire_at n w) wire → AreKept n (record n { wires = slice_set n.wires w wire })
wire_written n w wire kept = record {
  horizon = refl;
  wires = let size = length-set n.wires w wire in omega (arith, size);
  modules = omega arith;
  slots = λ k low. slot_written n.wires w wire kept k;
}

module_written : (n : Circuit) (m : ℕ) (part : Option ModuleRecord) → AreKept n (record n { modules = slice_set n.modules m part })
module_written n m part = record {
  horizon = refl;
  wires = omega arith;
  modules = let size = length-set n.modules m part in omega (arith, size);
  slots = λ w low. slot_same (wire_at n w);
}

wire_added : (n : Circuit) (r : WireRecord) → AreKept n (record n { wires = n.wires ++ Some r ∷ [] })
wire_added n r = record {
  horizon = refl;
  wires = let size = length-append n.wires (Some r ∷ []) in omega (arith, size);
  modules = omega arith;
  slots = λ w low. subst (IsSlotKept (wire_at n w)) (sym (get_or_append_left n.wires (Some r ∷ []) None w low)) (slot_same (wire_at n w));
}

module_added : (n : Circuit) (r : ModuleRecord) → AreKept n (record n { modules = n.modules ++ Some r ∷ [] })
module_added n r = record {
  horizon = refl;
  wires = omega arith;
  modules = let size = length-append n.modules (Some r ∷ []) in omega (arith, size);
  slots = λ w low. slot_same (wire_at n w);
}

stimulus_set : (changes : List (ℕ × ℕ)) (slot : Option WireRecord) → IsSlotKept slot (option_map (with_stimulus changes) slot)
stimulus_set changes None = tt
stimulus_set changes (Some r) = (refl, refl)

stimulus_cleared : (slot : Option WireRecord) → IsSlotKept slot (option_map without_stimulus slot)
stimulus_cleared None = tt
stimulus_cleared (Some r) = (refl, refl)

kept_edited : (n : Circuit) (edit : SingleEdit) → AreKept n (edited n edit)
unfolding edited
kept_edited n (AddWire name width level) = wire_added n (record { name = name; width = width; initial = level; stimulus = None })
kept_edited n (RemoveWire name) = wire_written n (wire_id n name).0 None (slot_emptied (wire_at n (wire_id n name).0))
kept_edited n (AddModule new) = module_added n (new_module n new)
kept_edited n (RemoveModule name) = module_written n _ _
kept_edited n (AddBundle new) = record { horizon = refl; wires = omega arith; modules = omega arith; slots = λ w low. slot_same (wire_at n w) }
kept_edited n (RemoveBundle name) = record { horizon = refl; wires = omega arith; modules = omega arith; slots = λ w low. slot_same (wire_at n w) }
kept_edited n (RewireInput name port wire) = module_written n _ _
kept_edited n (RewireOutput name port wire) = module_written n _ _
kept_edited n (SetInputDelay name port delay) = module_written n _ _
kept_edited n (SetDelay name port delay) = module_written n _ _
kept_edited n (SetStimulus name changes) = wire_written n (wire_id n name).0 _ (stimulus_set changes (wire_at n (wire_id n name).0))
kept_edited n (ClearStimulus name) = wire_written n (wire_id n name).0 _ (stimulus_cleared (wire_at n (wire_id n name).0))

kept_single : (n m : Circuit) (edit : SingleEdit) → after_single n edit ≡ Ok m → AreKept n m
kept_single n m edit made = by (refusal n edit) made
  where
    by : (refused : Option EditError) → unless refused (edited n edit) ≡ Ok m → AreKept n m
    by None made = let same : edited n edit ≡ m = cc in subst (AreKept n) same (kept_edited n edit)
    by (Some error) made = cc

kept_each : (place : ℕ) (n m : Circuit) (edits : List SingleEdit) → after_each place n edits ≡ Ok m → AreKept n m
kept_each place n m [] made = let same : n ≡ m = cc in subst (AreKept n) same (kept_same n)
kept_each place n m (edit ∷ edits) made =
    by (after_single n edit) (λ next. kept_single n next edit) (λ next. kept_each (place + 1) next m edits) made
  where
    by : (first : Result Circuit EditError) → ((next : Circuit) → first ≡ Ok next → AreKept n next) → ((next : Circuit) → after_each (place + 1) next edits ≡ Ok m → AreKept next m)
        → go_on (λ next. after_each (place + 1) next edits) (in_place place first) ≡ Ok m → AreKept n m
    by (Ok next) keeps later made = kept_joined n next m (keeps next refl) (later next made)
    by (Err error) keeps later made = cc

revised : (old new : Circuit) → AreKept old new → IsRevision old new
revised old new kept = record {
  horizon = kept.horizon;
  wires = kept.wires;
  modules = kept.modules;
  widths = λ w r s was is. (standing w r s was is).0;
  initials = λ w r s was is. (standing w r s was is).1;
}
  where
    standing : (w : ℕ) (r s : WireRecord) → wire_at old w ≡ Some r → wire_at new w ≡ Some s → (r.width ≡ s.width) × (r.initial ≡ s.initial)
    standing w r s was is =
        let slot = kept.slots w (slot_within old.wires w r was) in
        subst (λ x. IsSlotKept (Some r) x) is (subst (λ x. IsSlotKept x (wire_at new w)) was slot)

pub edits_revise : EditsRevise
edits_revise old new (Single edit) made = revised old new (kept_single old new edit made)
edits_revise old new (Batch edits) made = by (is_batch edits) made
  where
    by : (b : Bool) → cond b (after_each 1 old edits) (Err BadBatch) ≡ Ok new → IsRevision old new
    by true made = revised old new (kept_each 1 old new edits made)
    by false made = cc
