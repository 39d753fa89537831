-- Marks on the wires and modules that an edit names.
use Rattle.std.proofs.Common.{◌≡◌, ℕ, ◌+◌, ◌<◌, ◌≤◌, Bool, true, false, List, Option, Some, None, Ok, is_none, length, slice_index_or, refl, ap, sym, ◌∙◌, arith, inl, inr}
use Rattle.std.proofs.lemmas.Bool.{cases_lt, cases_eq}
use Rattle.std.proofs.lemmas.List.{get_or_default}
use Rattle.mp_records.specs.declared.wire_record.WireRecord.{WireRecord}
use Rattle.mp_records.specs.declared.edit.Edit.{Edit}
use Rattle.mp_records.specs.declared.single_edit.SingleEdit.{SingleEdit}
use Rattle.mp_netlist.specs.Slots.{slot_at, has_name, number_named}
use Rattle.mp_netlist.specs.Circuit.{Circuit, wire_at, module_at, stimulus_in}
use Rattle.mp_netlist.specs.Edits.{after}
use Rattle.mp_netlist.proofs.TableLemmas.{equal_name, named_has, named_none, same_name}
use Rattle.mp_netlist.proofs.NameLemmas.{wire_name, module_name}
use Rattle.mp_partition.specs.runs.Marks.{is_marked}
use Rattle.mp_near.specs.reach.Marks.{AreGrown}
use Rattle.mp_near.specs.reach.Named.{edits_in, module_changed_by, wire_changed_by}
use Rattle.mp_near.specs.reach.Reach.{IsSetSame}
use Rattle.mp_near.proofs.lemmas.laws.PlacedLemmas.{some_is}
use Rattle.mp_near.proofs.lemmas.reach.NamedLemmas.{unnamed_modules_stay, unnamed_wires_stay}

module _ {R : Type 0} (name_of : R → List ℕ) (slots : List (Option R)) where
  -- no two things have one name
  abbrev pub AreApart : Type 0
  AreApart = (i j : ℕ) (r s : R) → slot_at slots i ≡ Some r → slot_at slots j ≡ Some s → name_of r ≡ name_of s → i ≡ j

  -- a name finds the only thing that has it
  found_only : AreApart → (name : List ℕ) (k i : ℕ) (r : R) → number_named name_of slots name ≡ Some k → slot_at slots i ≡ Some r → name ≡ name_of r → i ≡ k
  found_only apart name k i r named at same = by (slot_at slots k) refl (named_has name_of slots name k named)
    where
      by : (here : Option R) → slot_at slots k ≡ here → has_name name_of name (slot_at slots k) ≡ true → i ≡ k
      by None e has = let is : false ≡ true = sym (ap (has_name name_of name) e) ∙ has in let no : ⊥ = cc in absurd no
      by (Some s) e has = apart i k r s at e (sym same ∙ same_name name (name_of s) (sym (ap (has_name name_of name) e) ∙ has))

  -- the thing of a name is marked where the place that the name finds is
  pub mark_found : AreApart → (changed : Option (List ℕ)) (name : List ℕ) (k : ℕ) → changed ≡ Some name → number_named name_of slots name ≡ Some k → (size : ℕ) (next : List Bool) → (k < size → is_marked next k ≡ true) →
      (i : ℕ) (r : R) → slot_at slots i ≡ Some r → changed ≡ Some (name_of r) → i < size → is_marked next i ≡ true
  mark_found apart changed name k is named size next marked i r at names low =
      let both : Some name ≡ Some (name_of r) = sym is ∙ names in
      let same : name ≡ name_of r = cc in
      let one : i ≡ k = found_only apart name k i r named at same in
      ap (λ j. is_marked next j) one ∙ marked (omega (arith, one, low))

  -- a name that finds nothing is no thing's name
  pub mark_nothing : (changed : Option (List ℕ)) (name : List ℕ) → changed ≡ Some name → number_named name_of slots name ≡ None → (i : ℕ) (r : R) → slot_at slots i ≡ Some r → changed ≡ Some (name_of r) → ⊥
  mark_nothing changed name is none i r at names =
      let both : Some name ≡ Some (name_of r) = sym is ∙ names in
      let same : name ≡ name_of r = cc in
      let has : has_name name_of name (slot_at slots i) ≡ true = ap (has_name name_of name) at ∙ equal_name name (name_of r) same in
      let not : has_name name_of name (slot_at slots i) ≡ false = named_none name_of slots name (ap is_none none) i in
      cc

  -- what the first so many edits name is marked
  abbrev pub AreNoted : (SingleEdit → Option (List ℕ)) → List SingleEdit → ℕ → ℕ → List Bool → Type 0
  AreNoted changed edits count size marks = (j i : ℕ) (e : SingleEdit) (r : R) → j < count → e ≡ slice_index_or edits j e → slot_at slots i ≡ Some r → changed e ≡ Some (name_of r) → i < size → is_marked marks i ≡ true

  pub noted_none : (changed : SingleEdit → Option (List ℕ)) (edits : List SingleEdit) (size : ℕ) (marks : List Bool) → AreNoted changed edits 0 size marks
  noted_none changed edits size marks j i e r low = absurd (omega arith)

  pub noted_next : (changed : SingleEdit → Option (List ℕ)) (edits : List SingleEdit) (count size : ℕ) (before after : List Bool) (e : SingleEdit) → count < length edits → e ≡ slice_index_or edits count e →
      length before ≡ size → AreGrown before after → ((i : ℕ) (r : R) → slot_at slots i ≡ Some r → changed e ≡ Some (name_of r) → i < length before → is_marked after i ≡ true) →
      AreNoted changed edits count size before → AreNoted changed edits (count + 1) size after
  noted_next changed edits count size before after e inside here places grown one noted j i f r low is at names within = elim (cases_eq j count) as (λ _. is_marked after i ≡ true) [
    | inl last ↦
        let same : f ≡ e = is ∙ ap (λ k. slice_index_or edits k f) last ∙ get_or_default edits count f e inside ∙ sym here in
        one i r at (ap changed (sym same) ∙ names) (omega (arith, places, within))
    | inr other ↦ grown.kept i (noted j i f r (omega arith) is at names within)
  ]

-- a module that isn't marked is the same before and after
pub modules_same : (old new : Circuit) (edit : Edit) → after old edit ≡ Ok new → (first marks : List Bool) (count : ℕ) → ((k : ℕ) → length old.modules ≤ k → k < length new.modules → is_marked first k ≡ true) → AreGrown first marks →
    length (edits_in edit) ≤ count → AreNoted module_name old.modules module_changed_by (edits_in edit) count (length new.modules) marks → (m : ℕ) → m < length new.modules → is_marked marks m ≡ false → module_at old m ≡ module_at new m
modules_same old new edit made first marks count fresh grown all noted m low not = elim (cases_lt m (length old.modules)) as (λ _. module_at old m ≡ module_at new m) [
  | inl here ↦ sym (unnamed_modules_stay old new edit made m here (λ r at named.
      let within = named.listed.1 in
      let yes = noted named.listed.0 m named.edit r (omega (arith, within, all)) (sym named.listed.2) at named.names low in
      let no : ⊥ = cc in no))
  | inr past ↦ let yes = grown.kept m (fresh m past low) in absurd (let no : ⊥ = cc in no)
]

set_same : (old new : Circuit) (w : ℕ) → wire_at new w ≡ wire_at old w → IsSetSame old new w
set_same old new w same = by (wire_at old w) refl
  where
    by : (here : Option WireRecord) → wire_at old w ≡ here → IsSetSame old new w
    by None at = inr (at, same ∙ at)
    by (Some r) at = inl (some_is (wire_at old w) r at, some_is (wire_at new w) r (same ∙ at), ap stimulus_in (sym same))

-- a wire that isn't marked is set the same
pub wires_same : (old new : Circuit) (edit : Edit) → after old edit ≡ Ok new → (first marks : List Bool) (count : ℕ) → ((k : ℕ) → length old.wires ≤ k → k < length new.wires → is_marked first k ≡ true) → AreGrown first marks →
    length (edits_in edit) ≤ count → AreNoted wire_name old.wires wire_changed_by (edits_in edit) count (length new.wires) marks → (w : ℕ) → w < length new.wires → is_marked marks w ≡ false → IsSetSame old new w
wires_same old new edit made first marks count fresh grown all noted w low not = elim (cases_lt w (length old.wires)) as (λ _. IsSetSame old new w) [
  | inl here ↦ set_same old new w (unnamed_wires_stay old new edit made w here (λ r at named.
      let within = named.listed.1 in
      let yes = noted named.listed.0 w named.edit r (omega (arith, within, all)) (sym named.listed.2) at named.names low in
      let no : ⊥ = cc in no))
  | inr past ↦ let yes = grown.kept w (fresh w past low) in absurd (let no : ⊥ = cc in no)
]
