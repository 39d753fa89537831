-- Netlists from which the modules of other parts are removed, one after the other.
use Rattle.std.proofs.Common.{◌≡◌, ℕ, ◌<◌, ◌≤◌, true, List, Option, None, Some, Ok, length, get_or, refl, sym, ap, subst, ◌∙◌, arith, inl, inr, true≢false}
use Rattle.std.specs.Prelude.{unwrap_or}
use Rattle.std.proofs.lemmas.Bool.{cases_lt}
use Rattle.std.proofs.lemmas.List.{get_or_past, get_or-set_same, get_or-set_other, length-set}
use Rattle.mp_records.specs.declared.module_record.ModuleRecord.{ModuleRecord}
use Rattle.mp_records.specs.declared.edit.Edit.TheVariants.{Single}
use Rattle.mp_records.specs.declared.single_edit.SingleEdit.TheVariants.{RemoveModule}
use Rattle.mp_records.specs.declared.edit_error.EditError.{EditError}
use Rattle.mp_netlist.specs.Slots.{has_name, number_named}
use Rattle.mp_netlist.specs.Circuit.{Circuit, IsCircuit, module_at, module_named}
use Rattle.mp_netlist.specs.Edits.{after, refusal, edited, unless, with_module}
use Rattle.mp_netlist.proofs.TableLemmas.{search_from_lookup, equal_name, same_name}
use Rattle.mp_model.proofs.SlotLemmas.{slot_within}
use Rattle.mp_partition.specs.regions.Regions.{partition_of}
use Rattle.mp_redo.specs.apart.Parts.{HasPart}
use Rattle.mp_redo.specs.parts.Removals.{HasSameFrame, IsWithout}

-- a module of this name stands in the slot
record IsNamed (name : List ℕ) (slot : Option ModuleRecord) : Type 0 where
  found : ModuleRecord
  at : slot ≡ Some found
  same : name ≡ found.name

named : (name : List ℕ) (slot : Option ModuleRecord) → has_name (λ (r : ModuleRecord). r.name) name slot ≡ true → IsNamed name slot
named name None has = absurd (true≢false (sym has))
named name (Some r) has = record { found = r; at = refl; same = same_name name r.name has }

-- what alone has a name is found by it
named_by : (slots : List (Option ModuleRecord)) (name : List ℕ) (number : ℕ)
    → ((i j : ℕ) → has_name (λ (r : ModuleRecord). r.name) name (get_or slots i None) ≡ true → has_name (λ (r : ModuleRecord). r.name) name (get_or slots j None) ≡ true → i ≡ j)
    → has_name (λ (r : ModuleRecord). r.name) name (get_or slots number None) ≡ true → Some number ≡ number_named (λ (r : ModuleRecord). r.name) slots name
unfolding number_named
named_by slots name number apart has =
    search_from_lookup (has_name (λ (r : ModuleRecord). r.name) name) None refl slots (Some number)
    (λ i. (
      (λ is. let same : number ≡ i = cc in subst (λ k. has_name (λ (r : ModuleRecord). r.name) name (get_or slots k None) ≡ true) same has),
      (λ other. ap Some (apart number i has other)),
    ))

-- a module is found by its name
number_of : (n : Circuit) → IsCircuit n → (m : ℕ) (r : ModuleRecord) → module_at n m ≡ Some r → module_named n r.name ≡ Some m
number_of n ok m r at =
    sym (named_by n.modules r.name m one has)
  where
    has : has_name (λ (x : ModuleRecord). x.name) r.name (module_at n m) ≡ true
    has = ap (has_name (λ (x : ModuleRecord). x.name) r.name) at ∙ equal_name r.name r.name refl

    one : (i j : ℕ) → has_name (λ (x : ModuleRecord). x.name) r.name (module_at n i) ≡ true → has_name (λ (x : ModuleRecord). x.name) r.name (module_at n j) ≡ true → i ≡ j
    one i j first second =
        let here = named r.name (module_at n i) first in
        let there = named r.name (module_at n j) second in
        ok.names.one_module i j here.found there.found here.at there.at (sym here.same ∙ there.same)

same_frame : (n : Circuit) → HasSameFrame n n
same_frame n = record { format = refl; horizon = refl; wires = refl; bundles = refl; places = refl }

without : (n : Circuit) (m : ℕ) (r : ModuleRecord) → module_at n m ≡ Some r → IsWithout n m (with_module n m None)
without n m r at = record {
  frame = record { format = refl; horizon = refl; wires = refl; bundles = refl; places = length-set n.modules m None };
  gone = get_or-set_same n.modules m None None (slot_within n.modules m r at);
  others = λ k other. get_or-set_other n.modules m k None None other;
}

-- where no module stands nothing is to be removed
pub absent : (n : Circuit) (m : ℕ) → module_at n m ≡ None → IsWithout n m n
absent n m none = record { frame = same_frame n; gone = none; others = λ k other. refl }

-- a removal that isn't refused leaves all but the module
pub removed : (n next : Circuit) (m : ℕ) (r : ModuleRecord) → IsCircuit n → module_at n m ≡ Some r → after n (Single (RemoveModule r.name)) ≡ Ok next → IsWithout n m next
unfolding edited
removed n next m r ok at made = by (refusal n (RemoveModule r.name)) made
  where
    here : IsWithout n m (edited n (RemoveModule r.name))
    here = subst (λ k. IsWithout n m (with_module n k None)) (sym (ap (λ o. unwrap_or o 0) (number_of n ok m r at))) (without n m r at)

    by : (refused : Option EditError) → unless refused (edited n (RemoveModule r.name)) ≡ Ok next → IsWithout n m next
    by None is = let same : edited n (RemoveModule r.name) ≡ next = cc in subst (IsWithout n m) same here
    by (Some error) is = cc

-- of the modules below a number those of other parts are removed
pub record IsPartTo (n : Circuit) (homes : List ℕ) (k m : ℕ) (found : Circuit) : Type 0 where
  pub frame : HasSameFrame n found
  pub here : (j : ℕ) → partition_of homes j ≡ k → module_at found j ≡ module_at n j
  pub gone : (j : ℕ) → j < m → (partition_of homes j ≡ k → ⊥) → module_at found j ≡ None
  pub rest : (j : ℕ) → m ≤ j → module_at found j ≡ module_at n j

pub all_removed : (n : Circuit) (homes : List ℕ) (k m : ℕ) (found : Circuit) → length n.modules ≤ m → IsPartTo n homes k m found → HasPart n homes k found
all_removed n homes k m found end is = record {
  format = is.frame.format;
  horizon = is.frame.horizon;
  wires = is.frame.wires;
  bundles = is.frame.bundles;
  places = is.frame.places;
  here = is.here;
  elsewhere = λ j other. elim (cases_lt j m) as (λ _. module_at found j ≡ None) [
    | inl low ↦ is.gone j low other
    | inr past ↦ is.rest j past ∙ get_or_past n.modules j None (omega (arith, end, past))
  ];
}
