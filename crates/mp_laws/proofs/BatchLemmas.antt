-- A batch is a replay of its edits.
use Rattle.std.proofs.Common.{◌≡◌, ◌⊎◌, inl, inr, ℕ, ◌+◌, Bool, true, false, cond, List, [], ◌∷◌, ◌++◌, length, map, Result, Ok, Err, refl, sym, ap, ◌∙◌, arith}
use Rattle.mp_records.specs.declared.edit.Edit.TheVariants.{Single}
use Rattle.mp_records.specs.declared.single_edit.SingleEdit.{SingleEdit}
use Rattle.mp_records.specs.declared.edit_error.EditError.{EditError}
use Rattle.mp_records.specs.declared.edit_error.EditError.TheVariants.{BadBatch, InBatch}
use Rattle.mp_records.specs.EditErrors.{number_of}
use Rattle.mp_netlist.specs.Circuit.{Circuit}
use Rattle.mp_netlist.specs.Edits.{after_single, after_each, go_on, in_place, is_batch}
use Rattle.mp_netlist.specs.Replays.{replay}
use Rattle.mp_laws.specs.Batches.{LeadTo, IsRefusedAt, BatchesAreReplays, BatchesAreRefusedInPlace, BatchesHaveSizes, IsInBatch, BatchesAreRefusedSo}

-- what follows a first edit
abbrev each_behind : ℕ → List SingleEdit → Result Circuit EditError → Result Circuit EditError
each_behind place edits made = go_on (λ next. after_each (place + 1) next edits) (in_place place made)

abbrev replay_behind : List SingleEdit → Result Circuit EditError → Result Circuit EditError
replay_behind edits made = go_on (λ next. replay next (map Single edits)) made

each_leads : (place : ℕ) (n m : Circuit) (edits : List SingleEdit) → after_each place n edits ≡ Ok m → LeadTo n edits m
each_leads place n m [] made = made
each_leads place n m (edit ∷ edits) made = by (after_single n edit) (λ next. each_leads (place + 1) next m edits) made
  where
    by : (first : Result Circuit EditError) → ((next : Circuit) → after_each (place + 1) next edits ≡ Ok m → LeadTo next edits m)
        → each_behind place edits first ≡ Ok m → replay_behind edits first ≡ Ok m
    by (Ok next) later made = later next made
    by (Err error) later made = cc

leads_each : (place : ℕ) (n m : Circuit) (edits : List SingleEdit) → LeadTo n edits m → after_each place n edits ≡ Ok m
leads_each place n m [] made = made
leads_each place n m (edit ∷ edits) made = by (after_single n edit) (λ next. leads_each (place + 1) next m edits) made
  where
    by : (first : Result Circuit EditError) → ((next : Circuit) → LeadTo next edits m → after_each (place + 1) next edits ≡ Ok m)
        → replay_behind edits first ≡ Ok m → each_behind place edits first ≡ Ok m
    by (Ok next) later made = later next made
    by (Err error) later made = cc

-- the edits from this place on lead to a netlist on which the one of a place is refused
record IsRefusedFrom (start : ℕ) (n : Circuit) (edits : List SingleEdit) (error : EditError) : Type 0 where
  front : List SingleEdit
  edit : SingleEdit
  rest : List SingleEdit
  next : Circuit
  cause : EditError
  parts : edits ≡ front ++ edit ∷ rest
  made : LeadTo n front next
  refused : after_single next edit ≡ Err cause
  told : error ≡ InBatch (start + length front) (number_of cause)

each_refused : (start : ℕ) (n : Circuit) (edits : List SingleEdit) (error : EditError) → after_each start n edits ≡ Err error → IsRefusedFrom start n edits error
each_refused start n [] error refused = cc
each_refused start n (edit ∷ edits) error refused = by (after_single n edit) refl (λ next. each_refused (start + 1) next edits error) refused
  where
    by : (first : Result Circuit EditError) → after_single n edit ≡ first
        → ((next : Circuit) → after_each (start + 1) next edits ≡ Err error → IsRefusedFrom (start + 1) next edits error)
        → each_behind start edits first ≡ Err error → IsRefusedFrom start n (edit ∷ edits) error
    by (Ok next) is later refused =
        let found = later next refused in
        let behind : start + 1 + length found.front ≡ start + length (edit ∷ found.front) = omega arith in
        record {
          front = edit ∷ found.front;
          edit = found.edit;
          rest = found.rest;
          next = found.next;
          cause = found.cause;
          parts = ap (λ edits. edit ∷ edits) found.parts;
          made = ap (replay_behind found.front) is ∙ found.made;
          refused = found.refused;
          told = found.told ∙ ap (λ place. InBatch place (number_of found.cause)) behind;
        }
    by (Err cause) is later refused =
        let same : InBatch start (number_of cause) ≡ error = cc in
        let here : start ≡ start + 0 = omega arith in
        record {
          front = [];
          edit = edit;
          rest = edits;
          next = n;
          cause = cause;
          parts = refl;
          made = refl;
          refused = is;
          told = sym same ∙ ap (λ place. InBatch place (number_of cause)) here;
        }

refused_each : (start : ℕ) (n next : Circuit) (front rest : List SingleEdit) (edit : SingleEdit) (cause : EditError) → LeadTo n front next → after_single next edit ≡ Err cause
    → after_each start n (front ++ edit ∷ rest) ≡ Err (InBatch (start + length front) (number_of cause))
refused_each start n next [] rest edit cause made refused =
    let same : n ≡ next = cc in
    let here : start ≡ start + 0 = omega arith in
    ap (λ n. each_behind start rest (after_single n edit)) same ∙ ap (each_behind start rest) refused ∙ ap (λ place. Err (InBatch place (number_of cause))) here
refused_each start n next (first ∷ front) rest edit cause made refused = by (after_single n first) (λ n. refused_each (start + 1) n next front rest edit cause) made
  where
    by : (made : Result Circuit EditError)
        → ((n : Circuit) → LeadTo n front next → after_single next edit ≡ Err cause
        → after_each (start + 1) n (front ++ edit ∷ rest) ≡ Err (InBatch (start + 1 + length front) (number_of cause)))
        → replay_behind front made ≡ Ok next → each_behind start (front ++ edit ∷ rest) made ≡ Err (InBatch (start + length (first ∷ front)) (number_of cause))
    by (Ok n) later made =
        let behind : start + 1 + length front ≡ start + length (first ∷ front) = omega arith in
        later n made refused ∙ ap (λ place. Err (InBatch place (number_of cause))) behind
    by (Err error) later made = cc

-- what a batch gives, by whether it is one
abbrev sized : Circuit → List SingleEdit → Bool → Result Circuit EditError
sized n edits is = cond is (after_each 1 n edits) (Err BadBatch)

pub batches_are_replays : BatchesAreReplays
batches_are_replays n m edits = (by (is_batch edits), λ made. ap (sized n edits) made.0 ∙ leads_each 1 n m edits made.1)
  where
    by : (is : Bool) → sized n edits is ≡ Ok m → (is ≡ true) × LeadTo n edits m
    by true made = (refl, each_leads 1 n m edits made)
    by false made = cc

-- the place that is told is that of the edit
in_its_place : (n : Circuit) (edits : List SingleEdit) (place number : ℕ) → IsRefusedFrom 1 n edits (InBatch place number) → IsRefusedAt n edits place number
in_its_place n edits place number found =
    let same : place ≡ 1 + length found.front = cc found.told in
    record {
      front = found.front;
      edit = found.edit;
      rest = found.rest;
      next = found.next;
      error = found.cause;
      parts = found.parts;
      behind = omega (arith, same);
      made = found.made;
      refused = found.refused;
      told = cc found.told;
    }

from_its_place : (n : Circuit) (edits : List SingleEdit) (place number : ℕ) → IsRefusedAt n edits place number → after_each 1 n edits ≡ Err (InBatch place number)
from_its_place n edits place number at =
    let same : 1 + length at.front ≡ place = omega (arith, at.behind) in
    ap (after_each 1 n) at.parts ∙ refused_each 1 n at.next at.front at.rest at.edit at.error at.made at.refused
    ∙ ap (λ place. Err (InBatch place (number_of at.error))) same ∙ ap (λ number. Err (InBatch place number)) (sym at.told)

pub batches_are_refused_in_place : BatchesAreRefusedInPlace
batches_are_refused_in_place n edits place number = (by (is_batch edits), λ at. ap (sized n edits) at.0 ∙ from_its_place n edits place number at.1)
  where
    by : (is : Bool) → sized n edits is ≡ Err (InBatch place number) → (is ≡ true) × IsRefusedAt n edits place number
    by true refused = (refl, in_its_place n edits place number (each_refused 1 n edits (InBatch place number) refused))
    by false refused = cc

pub batches_have_sizes : BatchesHaveSizes
batches_have_sizes n edits = (by (is_batch edits), λ none. ap (sized n edits) none)
  where
    by : (is : Bool) → sized n edits is ≡ Err BadBatch → is ≡ false
    by true refused = let told = (each_refused 1 n edits BadBatch refused).told in cc
    by false refused = refl

pub batches_are_refused_so : BatchesAreRefusedSo
batches_are_refused_so n edits error = by (is_batch edits)
  where
    by : (is : Bool) → sized n edits is ≡ Err error → (error ≡ BadBatch) ⊎ IsInBatch error
    by true refused = let found = each_refused 1 n edits error refused in inr (1 + length found.front, (number_of found.cause, found.told))
    by false refused = inl cc
