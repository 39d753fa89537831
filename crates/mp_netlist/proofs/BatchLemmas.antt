-- A netlist is still one after each edit that is not refused.
use Rattle.std.proofs.Common.{◌≡◌, ◌⊎◌, inl, inr, rules, IsTrue, ℕ, ◌+◌, Bool, true, false, cond, List, [], ◌∷◌, Option, None, Some, Result, Ok, Err, refl, subst}
use Rattle.mp_records.specs.declared.edit.Edit.TheVariants.{Single, Batch}
use Rattle.mp_records.specs.declared.single_edit.SingleEdit.{SingleEdit}
use Rattle.mp_records.specs.declared.edit_error.EditError.{EditError}
use Rattle.mp_records.specs.declared.edit_error.EditError.TheVariants.{BadBatch, OutOfMemory}
use Rattle.mp_netlist.specs.Circuit.{Circuit, IsCircuit}
use Rattle.mp_netlist.specs.Edits.{refusal, edited, unless, after_single, in_place, go_on, after_each, is_batch, first_failing, batch_checks, after, RefusedBy}
use Rattle.mp_netlist.specs.Laws.{EditsKeepNetlists}
use Rattle.mp_netlist.proofs.EditLemmas.{IsCircuit-edited}

made_single : (n m : Circuit) → IsCircuit n → (edit : SingleEdit) → after_single n edit ≡ Ok m → IsCircuit m
made_single n m ok edit made = by (refusal n edit) (IsCircuit-edited n ok edit) made
  where
    by : (refused : Option EditError) → (refused ≡ None → IsCircuit (edited n edit)) → unless refused (edited n edit) ≡ Ok m → IsCircuit m
    by None keeps made = let same : edited n edit ≡ m = cc in subst IsCircuit same (keeps refl)
    by (Some error) keeps made = cc

made_each : (place : ℕ) (n m : Circuit) → IsCircuit n → (edits : List SingleEdit) → after_each place n edits ≡ Ok m → IsCircuit m
made_each place n m ok [] made = let same : n ≡ m = cc in subst IsCircuit same ok
made_each place n m ok (edit ∷ edits) made =
    by (after_single n edit) (λ next. made_single n next ok edit) (λ next whole. made_each (place + 1) next m whole edits) made
  where
    by : (first : Result Circuit EditError) → ((next : Circuit) → first ≡ Ok next → IsCircuit next)
        → ((next : Circuit) → IsCircuit next → after_each (place + 1) next edits ≡ Ok m → IsCircuit m)
        → go_on (λ next. after_each (place + 1) next edits) (in_place place first) ≡ Ok m → IsCircuit m
    by (Ok next) keeps later made = later next (keeps next refl) made
    by (Err error) keeps later made = cc

pub edits_keep_netlists : EditsKeepNetlists
edits_keep_netlists n m ok (Single edit) made = made_single n m ok edit made
edits_keep_netlists n m ok (Batch edits) made = by (is_batch edits) made
  where
    by : (b : Bool) → cond b (after_each 1 n edits) (Err BadBatch) ≡ Ok m → IsCircuit m
    by true made = made_each 1 n m ok edits made
    by false made = cc

-- a batch that may be one is refused as its edits are
pub batch_refused : (n : Circuit) (edits : List SingleEdit) (error : EditError) → None ≡ first_failing (batch_checks edits) → (after_each 1 n edits ≡ Err error) ⊎ (error ≡ OutOfMemory)
    → RefusedBy (Batch edits) (after n (Batch edits)) error
batch_refused n edits error ok refused = by (is_batch edits) ok refused
  where
    by : (b : Bool) → None ≡ cond b None (Some BadBatch) → (after_each 1 n edits ≡ Err error) ⊎ (error ≡ OutOfMemory)
        → (cond b (after_each 1 n edits) (Err BadBatch) ≡ Err error) ⊎ ((error ≡ OutOfMemory) × IsTrue b)
    by true ok (inl first) = inl first
    by true ok (inr lacking) = inr (lacking, search rules)
    by false ok refused = cc
