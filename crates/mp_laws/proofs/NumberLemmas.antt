-- Numbers are never used again.
use Rattle.std.proofs.Common.{◌≡◌, ◌⊎◌, inl, inr, ℕ, ◌+◌, ◌<◌, Bool, true, false, cond, List, [], ◌∷◌, ◌++◌, length, Option, None, Some, option_map, Result, Ok, Err, refl, sym, ap, subst, ◌∙◌, arith, length-append}
use Rattle.std.specs.Str.{bytes_eq}
use Rattle.std.proofs.Math.ListN.{set, length-set}
use Rattle.std.proofs.lemmas.List.{get_or_append_left, get_or-set_same, get_or-set_other}
use Rattle.std.proofs.lemmas.Bool.{cases_eq}
use Rattle.mp_records.specs.declared.wire_record.WireRecord.{WireRecord}
use Rattle.mp_records.specs.declared.module_record.ModuleRecord.{ModuleRecord}
use Rattle.mp_records.specs.declared.bundle_record.BundleRecord.{BundleRecord}
use Rattle.mp_records.specs.declared.edit.Edit.TheVariants.{Single, Batch}
use Rattle.mp_records.specs.declared.single_edit.SingleEdit.{SingleEdit}
use Rattle.mp_records.specs.declared.single_edit.SingleEdit.TheVariants.{AddWire, RemoveWire, AddModule, RemoveModule, AddBundle, RemoveBundle, RewireInput, RewireOutput, SetInputDelay, SetDelay, SetStimulus, ClearStimulus}
use Rattle.mp_records.specs.declared.edit_error.EditError.{EditError}
use Rattle.mp_records.specs.declared.edit_error.EditError.TheVariants.{BadBatch}
use Rattle.mp_netlist.specs.Slots.{slot_at, has_name}
use Rattle.mp_netlist.specs.Circuit.{Circuit, wire_at, module_at}
use Rattle.mp_netlist.specs.Edits.{refusal, edited, unless, after, after_single, after_each, go_on, in_place, is_batch, wire_id, module_id, bundle_id, with_wire, with_module}
use Rattle.mp_netlist.specs.Replays.{replay}
use Rattle.mp_laws.specs.Numbers.{KeepsNumbers, UsesNumbersOnce, EditsUseNumbersOnce, ReplaysUseNumbersOnce}

module _ {R : Type 0} (name_of : R → List ℕ) where
  kept : (slots : List (Option R)) → KeepsNumbers name_of slots slots
  kept slots = record { longer = omega arith; empty = λ number within none. none; named = λ number name within has. has }

  kept_on : (a b c : List (Option R)) → KeepsNumbers name_of a b → KeepsNumbers name_of b c → KeepsNumbers name_of a c
  kept_on a b c first second = record {
    longer = omega (arith, first.longer, second.longer);
    empty = λ number within none. second.empty number (omega (arith, within, first.longer)) (first.empty number within none);
    named = λ number name within has. first.named number name within (second.named number name (omega (arith, within, first.longer)) has);
  }

  -- something new goes behind the slots
  kept-push : (slots : List (Option R)) (new : Option R) → KeepsNumbers name_of slots (slots ++ new ∷ [])
  kept-push slots new = record {
    longer = rw length-append (omega arith);
    empty = λ number within none. get_or_append_left slots (new ∷ []) None number within ∙ none;
    named = λ number name within has. ap (has_name name_of name) (sym (get_or_append_left slots (new ∷ []) None number within)) ∙ has;
  }

  -- what comes into a slot stood there under its name, if anything comes
  record ComesFrom (old new : Option R) : Type 0 where
    empty : old ≡ None → new ≡ None
    named : (name : List ℕ) → has_name name_of name new ≡ true → has_name name_of name old ≡ true

  kept-set : (slots : List (Option R)) (k : ℕ) (new : Option R) → ComesFrom (slot_at slots k) new → KeepsNumbers name_of slots (set slots k new)
  kept-set slots k new comes = record {
    longer = rw length-set (omega arith);
    empty = λ number within none. by_empty number within none (cases_eq number k);
    named = λ number name within has. by_name number name within has (cases_eq number k);
  }
    where
      by_empty : (number : ℕ) → number < length slots → slot_at slots number ≡ None → (number ≡ k) ⊎ (number ≡ k → ⊥) → slot_at (set slots k new) number ≡ None
      by_empty number within none (inl same) =
          let inside : k < length slots = omega (arith, within, same) in
          ap (slot_at (set slots k new)) same ∙ get_or-set_same slots k new None inside ∙ comes.empty (ap (slot_at slots) (sym same) ∙ none)
      by_empty number within none (inr other) = get_or-set_other slots k number new None other ∙ none

      by_name : (number : ℕ) (name : List ℕ) → number < length slots → has_name name_of name (slot_at (set slots k new) number) ≡ true
          → (number ≡ k) ⊎ (number ≡ k → ⊥) → has_name name_of name (slot_at slots number) ≡ true
      by_name number name within has (inl same) =
          let inside : k < length slots = omega (arith, within, same) in
          let there : slot_at (set slots k new) number ≡ new = ap (slot_at (set slots k new)) same ∙ get_or-set_same slots k new None inside in
          ap (λ k. has_name name_of name (slot_at slots k)) same ∙ comes.named name (ap (has_name name_of name) (sym there) ∙ has)
      by_name number name within has (inr other) = ap (has_name name_of name) (sym (get_or-set_other slots k number new None other)) ∙ has

  gone : (old : Option R) → ComesFrom old None
  gone old = record { empty = λ none. refl; named = λ name has. cc }

  changed : (old : Option R) (change : R → R) → ((thing : R) → name_of (change thing) ≡ name_of thing) → ComesFrom old (option_map change old)
  changed None change keeps = record { empty = λ none. refl; named = λ name has. has }
  changed (Some thing) change keeps = record { empty = λ none. cc; named = λ name has. ap (bytes_eq name) (sym (keeps thing)) ∙ has }

abbrev wire_name : WireRecord → List ℕ
wire_name r = r.name

abbrev module_name : ModuleRecord → List ℕ
module_name r = r.name

abbrev bundle_name : BundleRecord → List ℕ
bundle_name r = r.name

module _ (n : Circuit) where
  same_circuit : UsesNumbersOnce n n
  same_circuit = record { format = refl; horizon = refl; wires = kept wire_name n.wires; modules = kept module_name n.modules; bundles = kept bundle_name n.bundles }

  wires_kept : (wires : List (Option WireRecord)) → KeepsNumbers wire_name n.wires wires → UsesNumbersOnce n (record n { wires = wires })
  wires_kept wires keeps = record { format = refl; horizon = refl; wires = keeps; modules = kept module_name n.modules; bundles = kept bundle_name n.bundles }

  modules_kept : (modules : List (Option ModuleRecord)) → KeepsNumbers module_name n.modules modules → UsesNumbersOnce n (record n { modules = modules })
  modules_kept modules keeps = record { format = refl; horizon = refl; wires = kept wire_name n.wires; modules = keeps; bundles = kept bundle_name n.bundles }

  bundles_kept : (bundles : List (Option BundleRecord)) → KeepsNumbers bundle_name n.bundles bundles → UsesNumbersOnce n (record n { bundles = bundles })
  bundles_kept bundles keeps = record { format = refl; horizon = refl; wires = kept wire_name n.wires; modules = kept module_name n.modules; bundles = keeps }

  wire_kept : (w : ℕ) (wire : Option WireRecord) → ComesFrom wire_name (wire_at n w) wire → UsesNumbersOnce n (with_wire n w wire)
  wire_kept w wire comes = wires_kept _ (kept-set wire_name n.wires w wire comes)

  wire_changed : (w : ℕ) (change : WireRecord → WireRecord) → ((wire : WireRecord) → wire_name (change wire) ≡ wire_name wire)
      → UsesNumbersOnce n (with_wire n w (option_map change (wire_at n w)))
  wire_changed w change keeps = wire_kept w _ (changed wire_name (wire_at n w) change keeps)

  module_kept : (m : ℕ) (part : Option ModuleRecord) → ComesFrom module_name (module_at n m) part → UsesNumbersOnce n (with_module n m part)
  module_kept m part comes = modules_kept _ (kept-set module_name n.modules m part comes)

  module_changed : (m : ℕ) (change : ModuleRecord → ModuleRecord) → ((part : ModuleRecord) → module_name (change part) ≡ module_name part)
      → UsesNumbersOnce n (with_module n m (option_map change (module_at n m)))
  module_changed m change keeps = module_kept m _ (changed module_name (module_at n m) change keeps)

  edited_once : (edit : SingleEdit) → UsesNumbersOnce n (edited n edit)
  unfolding edited
  edited_once (AddWire name width level) = wires_kept _ (kept-push wire_name n.wires _)
  edited_once (RemoveWire name) = wire_kept (wire_id n name).0 None (gone wire_name _)
  edited_once (AddModule new) = modules_kept _ (kept-push module_name n.modules _)
  edited_once (RemoveModule name) = module_kept (module_id n name).0 None (gone module_name _)
  edited_once (AddBundle new) = bundles_kept _ (kept-push bundle_name n.bundles _)
  edited_once (RemoveBundle name) = bundles_kept _ (kept-set bundle_name n.bundles (bundle_id n name).0 None (gone bundle_name _))
  edited_once (RewireInput name port wire) = module_changed (module_id n name).0 _ (λ part. refl)
  edited_once (RewireOutput name port wire) = module_changed (module_id n name).0 _ (λ part. refl)
  edited_once (SetInputDelay name port delay) = module_changed (module_id n name).0 _ (λ part. refl)
  edited_once (SetDelay name port delay) = module_changed (module_id n name).0 _ (λ part. refl)
  edited_once (SetStimulus name changes) = wire_changed (wire_id n name).0 _ (λ wire. refl)
  edited_once (ClearStimulus name) = wire_changed (wire_id n name).0 _ (λ wire. refl)

once_on : (a b c : Circuit) → UsesNumbersOnce a b → UsesNumbersOnce b c → UsesNumbersOnce a c
once_on a b c first second = record {
  format = second.format ∙ first.format;
  horizon = second.horizon ∙ first.horizon;
  wires = kept_on wire_name a.wires b.wires c.wires first.wires second.wires;
  modules = kept_on module_name a.modules b.modules c.modules first.modules second.modules;
  bundles = kept_on bundle_name a.bundles b.bundles c.bundles first.bundles second.bundles;
}

single_once : (n m : Circuit) (edit : SingleEdit) → after_single n edit ≡ Ok m → UsesNumbersOnce n m
single_once n m edit made = by (refusal n edit) made
  where
    by : (refused : Option EditError) → unless refused (edited n edit) ≡ Ok m → UsesNumbersOnce n m
    by None made = let same : edited n edit ≡ m = cc in subst (UsesNumbersOnce n) same (edited_once n edit)
    by (Some error) made = cc

each_once : (place : ℕ) (n m : Circuit) (edits : List SingleEdit) → after_each place n edits ≡ Ok m → UsesNumbersOnce n m
each_once place n m [] made = let same : n ≡ m = cc in subst (UsesNumbersOnce n) same (same_circuit n)
each_once place n m (edit ∷ edits) made = by (after_single n edit) (λ next. single_once n next edit) (λ next. each_once (place + 1) next m edits) made
  where
    by : (first : Result Circuit EditError) → ((next : Circuit) → first ≡ Ok next → UsesNumbersOnce n next)
        → ((next : Circuit) → after_each (place + 1) next edits ≡ Ok m → UsesNumbersOnce next m)
        → go_on (λ next. after_each (place + 1) next edits) (in_place place first) ≡ Ok m → UsesNumbersOnce n m
    by (Ok next) once later made = once_on n next m (once next refl) (later next made)
    by (Err error) once later made = cc

pub edits_use_numbers_once : EditsUseNumbersOnce
edits_use_numbers_once n m (Single edit) made = single_once n m edit made
edits_use_numbers_once n m (Batch edits) made = by (is_batch edits) made
  where
    by : (is : Bool) → cond is (after_each 1 n edits) (Err BadBatch) ≡ Ok m → UsesNumbersOnce n m
    by true made = each_once 1 n m edits made
    by false made = cc

pub replays_use_numbers_once : ReplaysUseNumbersOnce
replays_use_numbers_once n m [] made = let same : n ≡ m = cc in subst (UsesNumbersOnce n) same (same_circuit n)
replays_use_numbers_once n m (edit ∷ edits) made = by (after n edit) (λ next. edits_use_numbers_once n next edit) (λ next. replays_use_numbers_once next m edits) made
  where
    by : (first : Result Circuit EditError) → ((next : Circuit) → first ≡ Ok next → UsesNumbersOnce n next)
        → ((next : Circuit) → replay next edits ≡ Ok m → UsesNumbersOnce next m) → go_on (λ next. replay next edits) first ≡ Ok m → UsesNumbersOnce n m
    by (Ok next) once later made = once_on n next m (once next refl) (later next made)
    by (Err error) once later made = cc
