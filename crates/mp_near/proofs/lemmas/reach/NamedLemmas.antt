-- What an edit doesn't name stays as it is.
use Rattle.std.proofs.Common.{◌≡◌, ℕ, ◌+◌, ◌<◌, Bool, true, false, cond, List, [], ◌∷◌, Option, None, Some, Result, Ok, Err, length, slice_set, suc, refl, ap, sym, ◌∙◌, arith, inl, inr}
use Rattle.std.proofs.lemmas.Bool.{cases_eq}
use Rattle.std.proofs.lemmas.List.{get_or_append_left, get_or-set_other}
use Rattle.mp_records.specs.declared.wire_record.WireRecord.{WireRecord}
use Rattle.mp_records.specs.declared.module_record.ModuleRecord.{ModuleRecord}
use Rattle.mp_records.specs.declared.edit.Edit.TheVariants.{Single, Batch}
use Rattle.mp_records.specs.declared.single_edit.SingleEdit.{SingleEdit}
use Rattle.mp_records.specs.declared.single_edit.SingleEdit.TheVariants.{AddWire, RemoveWire, AddModule, RemoveModule, AddBundle, RemoveBundle, RewireInput, RewireOutput, SetInputDelay, SetDelay, SetStimulus, ClearStimulus}
use Rattle.mp_records.specs.declared.edit_error.EditError.{EditError}
use Rattle.mp_records.specs.declared.edit_error.EditError.TheVariants.{BadBatch, NoSuchWire, NoSuchModule}
use Rattle.mp_netlist.specs.Slots.{slot_at, has_name, number_named}
use Rattle.mp_netlist.specs.Circuit.{Circuit, wire_at, module_at}
use Rattle.mp_netlist.specs.Edits.{stands, module_stands, wire_id, module_id, refusal, edited, unless, after_single, in_place, go_on, after_each, is_batch, new_module}
use Rattle.mp_netlist.proofs.TableLemmas.{same_name, named_has}
use Rattle.mp_netlist.proofs.NameLemmas.{wire_name, module_name, stands_from, module_stands_from}
use Rattle.mp_depend.specs.work.Revisions.{IsRevision}
use Rattle.mp_depend.proofs.lemmas.work.RevisionLemmas.{edits_revise}
use Rattle.mp_near.specs.reach.Named.{wire_changed_by, module_changed_by, IsWireNamed, IsModuleNamed, UnnamedWiresStay, UnnamedModulesStay}

first_passes : (b : Bool) (error : EditError) (other : Option EditError) → cond b other (Some error) ≡ None → b ≡ true
first_passes true error other none = refl
first_passes false error other none = cc

-- where the slot of one name is written, a slot in which nothing has this name stays
untouched : {R : Type 0} (name_of : R → List ℕ) (slots : List (Option R)) (name : List ℕ) (i k : ℕ) (slot : Option R) → number_named name_of slots name ≡ Some i
    → ((r : R) → slot_at slots k ≡ Some r → name ≡ name_of r → ⊥) → slot_at (slice_set slots i slot) k ≡ slot_at slots k
untouched {R} name_of slots name i k slot named not = elim (cases_eq k i) as (λ _. slot_at (slice_set slots i slot) k ≡ slot_at slots k) [
  | inl same ↦ absurd (by (slot_at slots k) refl (ap (λ j. has_name name_of name (slot_at slots j)) same ∙ named_has name_of slots name i named))
  | inr other ↦ get_or-set_other slots i k slot None other
]
  where
    by : (here : Option R) → slot_at slots k ≡ here → has_name name_of name (slot_at slots k) ≡ true → ⊥
    by None at has = let no = sym (ap (has_name name_of name) at) ∙ has in cc
    by (Some r) at has = not r at (same_name name (name_of r) (sym (ap (has_name name_of name) at) ∙ has))

-- ---- an edit of one thing
wire_written : (n : Circuit) (name : List ℕ) (w : ℕ) (slot : Option WireRecord) (other : Option EditError) → cond (stands n name) other (Some NoSuchWire) ≡ None
    → ((r : WireRecord) → wire_at n w ≡ Some r → Some name ≡ Some r.name → ⊥) → slot_at (slice_set n.wires (wire_id n name).0 slot) w ≡ wire_at n w
wire_written n name w slot other none not =
    untouched wire_name n.wires name (wire_id n name).0 w slot (stands_from n name (first_passes (stands n name) NoSuchWire other none)).named (λ r at same. not r at (ap (λ x. Some x) same))

module_written : (n : Circuit) (name : List ℕ) (m : ℕ) (slot : Option ModuleRecord) (other : Option EditError) → cond (module_stands n name) other (Some NoSuchModule) ≡ None
    → ((r : ModuleRecord) → module_at n m ≡ Some r → Some name ≡ Some r.name → ⊥) → slot_at (slice_set n.modules (module_id n name).0 slot) m ≡ module_at n m
module_written n name m slot other none not =
    untouched module_name n.modules name (module_id n name).0 m slot (module_stands_from n name (first_passes (module_stands n name) NoSuchModule other none)).named (λ r at same. not r at (ap (λ x. Some x) same))

wire_edited : (n : Circuit) (w : ℕ) (edit : SingleEdit) → refusal n edit ≡ None → w < length n.wires → ((r : WireRecord) → wire_at n w ≡ Some r → wire_changed_by edit ≡ Some r.name → ⊥)
    → wire_at (edited n edit) w ≡ wire_at n w
unfolding refusal edited
wire_edited n w (AddWire name width level) none low not = get_or_append_left n.wires (Some (record { name = name; width = width; initial = level; stimulus = None }) ∷ []) None w low
wire_edited n w (RemoveWire name) none low not = wire_written n name w _ _ none not
wire_edited n w (AddModule new) none low not = refl
wire_edited n w (RemoveModule name) none low not = refl
wire_edited n w (AddBundle new) none low not = refl
wire_edited n w (RemoveBundle name) none low not = refl
wire_edited n w (RewireInput name port wire) none low not = refl
wire_edited n w (RewireOutput name port wire) none low not = refl
wire_edited n w (SetInputDelay name port delay) none low not = refl
wire_edited n w (SetDelay name port delay) none low not = refl
wire_edited n w (SetStimulus name changes) none low not = wire_written n name w _ _ none not
wire_edited n w (ClearStimulus name) none low not = wire_written n name w _ _ none not

module_edited : (n : Circuit) (m : ℕ) (edit : SingleEdit) → refusal n edit ≡ None → m < length n.modules → ((r : ModuleRecord) → module_at n m ≡ Some r → module_changed_by edit ≡ Some r.name → ⊥)
    → module_at (edited n edit) m ≡ module_at n m
unfolding refusal edited
module_edited n m (AddWire name width level) none low not = refl
module_edited n m (RemoveWire name) none low not = refl
module_edited n m (AddModule new) none low not = get_or_append_left n.modules (Some (new_module n new) ∷ []) None m low
module_edited n m (RemoveModule name) none low not = module_written n name m _ _ none not
module_edited n m (AddBundle new) none low not = refl
module_edited n m (RemoveBundle name) none low not = refl
module_edited n m (RewireInput name port wire) none low not = module_written n name m _ _ none not
module_edited n m (RewireOutput name port wire) none low not = module_written n name m _ _ none not
module_edited n m (SetInputDelay name port delay) none low not = module_written n name m _ _ none not
module_edited n m (SetDelay name port delay) none low not = module_written n name m _ _ none not
module_edited n m (SetStimulus name changes) none low not = refl
module_edited n m (ClearStimulus name) none low not = refl

-- what an edit of one thing made
record IsMade (n m : Circuit) (edit : SingleEdit) : Type 0 where
  accepted : refusal n edit ≡ None
  same : edited n edit ≡ m
  revised : IsRevision n m

made_single : (n m : Circuit) (edit : SingleEdit) → after_single n edit ≡ Ok m → IsMade n m edit
made_single n m edit made = by (refusal n edit) refl made
  where
    by : (refused : Option EditError) → refusal n edit ≡ refused → unless refused (edited n edit) ≡ Ok m → IsMade n m edit
    by None e is = let same : edited n edit ≡ m = cc in record { accepted = e; same = same; revised = edits_revise n m (Single edit) made }
    by (Some error) e is = let no : ⊥ = cc in absurd no

-- ---- one edit after the other
wire_made : (w : ℕ) (n m : Circuit) (edit : SingleEdit) → IsMade n m edit → w < length n.wires → ((r : WireRecord) → wire_at n w ≡ Some r → wire_changed_by edit ≡ Some r.name → ⊥) → wire_at m w ≡ wire_at n w
wire_made w n m edit made low not = sym (ap (λ (x : Circuit). wire_at x w) made.same) ∙ wire_edited n w edit made.accepted low not

wires_each : (w place : ℕ) (n m : Circuit) (edits : List SingleEdit) → after_each place n edits ≡ Ok m → w < length n.wires
    → ((r : WireRecord) → wire_at n w ≡ Some r → IsWireNamed edits r.name → ⊥) → wire_at m w ≡ wire_at n w
wires_each w place n m [] made low not = let same : n ≡ m = cc in ap (λ (x : Circuit). wire_at x w) (sym same)
wires_each w place n m (edit ∷ edits) made low not = by (after_single n edit) (λ next. made_single n next edit) (λ next. wires_each w (place + 1) next m edits) made
  where
    by : (first : Result Circuit EditError) → ((next : Circuit) → first ≡ Ok next → IsMade n next edit)
        → ((next : Circuit) → after_each (place + 1) next edits ≡ Ok m → w < length next.wires → ((r : WireRecord) → wire_at next w ≡ Some r → IsWireNamed edits r.name → ⊥) → wire_at m w ≡ wire_at next w)
        → go_on (λ next. after_each (place + 1) next edits) (in_place place first) ≡ Ok m → wire_at m w ≡ wire_at n w
    by (Ok next) single later is =
        let step = single next refl in
        let here = wire_made w n next edit step low (λ r at names. not r at (record { edit = edit; listed = (0, omega arith, refl); names = names })) in
        let longer = step.revised.wires in
        later next is (omega (arith, low, longer))
        (λ r at named. not r (sym here ∙ at) (record { edit = named.edit; listed = (suc named.listed.0, omega (arith, named.listed.1), named.listed.2); names = named.names }))
        ∙ here
    by (Err error) single later is = let no : ⊥ = cc in absurd no

pub unnamed_wires_stay : UnnamedWiresStay
unnamed_wires_stay old new (Single edit) made w low not =
    wire_made w old new edit (made_single old new edit made) low (λ r at names. not r at (record { edit = edit; listed = (0, omega arith, refl); names = names }))
unnamed_wires_stay old new (Batch edits) made w low not = by (is_batch edits) made
  where
    by : (b : Bool) → cond b (after_each 1 old edits) (Err BadBatch) ≡ Ok new → wire_at new w ≡ wire_at old w
    by true is = wires_each w 1 old new edits is low not
    by false is = let no : ⊥ = cc in absurd no

module_made : (m : ℕ) (n z : Circuit) (edit : SingleEdit) → IsMade n z edit → m < length n.modules → ((r : ModuleRecord) → module_at n m ≡ Some r → module_changed_by edit ≡ Some r.name → ⊥) → module_at z m ≡ module_at n m
module_made m n z edit made low not = sym (ap (λ (x : Circuit). module_at x m) made.same) ∙ module_edited n m edit made.accepted low not

modules_each : (m place : ℕ) (n z : Circuit) (edits : List SingleEdit) → after_each place n edits ≡ Ok z → m < length n.modules
    → ((r : ModuleRecord) → module_at n m ≡ Some r → IsModuleNamed edits r.name → ⊥) → module_at z m ≡ module_at n m
modules_each m place n z [] made low not = let same : n ≡ z = cc in ap (λ (x : Circuit). module_at x m) (sym same)
modules_each m place n z (edit ∷ edits) made low not = by (after_single n edit) (λ next. made_single n next edit) (λ next. modules_each m (place + 1) next z edits) made
  where
    by : (first : Result Circuit EditError) → ((next : Circuit) → first ≡ Ok next → IsMade n next edit)
        → ((next : Circuit) → after_each (place + 1) next edits ≡ Ok z → m < length next.modules → ((r : ModuleRecord) → module_at next m ≡ Some r → IsModuleNamed edits r.name → ⊥) → module_at z m ≡ module_at next m)
        → go_on (λ next. after_each (place + 1) next edits) (in_place place first) ≡ Ok z → module_at z m ≡ module_at n m
    by (Ok next) single later is =
        let step = single next refl in
        let here = module_made m n next edit step low (λ r at names. not r at (record { edit = edit; listed = (0, omega arith, refl); names = names })) in
        let longer = step.revised.modules in
        later next is (omega (arith, low, longer))
        (λ r at named. not r (sym here ∙ at) (record { edit = named.edit; listed = (suc named.listed.0, omega (arith, named.listed.1), named.listed.2); names = named.names }))
        ∙ here
    by (Err error) single later is = let no : ⊥ = cc in absurd no

pub unnamed_modules_stay : UnnamedModulesStay
unnamed_modules_stay old new (Single edit) made m low not =
    module_made m old new edit (made_single old new edit made) low (λ r at names. not r at (record { edit = edit; listed = (0, omega arith, refl); names = names }))
unnamed_modules_stay old new (Batch edits) made m low not = by (is_batch edits) made
  where
    by : (b : Bool) → cond b (after_each 1 old edits) (Err BadBatch) ≡ Ok new → module_at new m ≡ module_at old m
    by true is = modules_each m 1 old new edits is low not
    by false is = let no : ⊥ = cc in absurd no
