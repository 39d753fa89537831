-- When a batch is accepted, and when it is refused.
use Rattle.std.specs.Prelude.{◌≡◌, ◌⊎◌, ◌↔◌, ℕ, ◌+◌, List, ◌∷◌, ◌++◌, length, map, IsTrue, IsFalse, Ok, Err}
use Rattle.mp_records.specs.declared.edit.Edit.TheVariants.{Single, Batch}
use Rattle.mp_records.specs.declared.single_edit.SingleEdit.{SingleEdit}
use Rattle.mp_records.specs.declared.edit_error.EditError.{EditError}
use Rattle.mp_records.specs.declared.edit_error.EditError.TheVariants.{BadBatch, InBatch}
use Rattle.mp_records.specs.EditErrors.{number_of}
use Rattle.mp_netlist.specs.Circuit.{Circuit}
use Rattle.mp_netlist.specs.Edits.{after, is_batch}
use Rattle.mp_netlist.specs.Replays.{replay}

-- the edits, each an edit of its own, lead from one netlist to the other
abbrev pub LeadTo : Circuit → List SingleEdit → Circuit → Type 0
LeadTo n edits m = replay n (map Single edits) ≡ Ok m

-- the edits before this place lead to a netlist, on which the one in this place is refused with this number
pub record IsRefusedAt (n : Circuit) (edits : List SingleEdit) (place number : ℕ) : Type 0 where
  pub front : List SingleEdit
  pub edit : SingleEdit
  pub rest : List SingleEdit
  pub next : Circuit
  pub error : EditError
  pub parts : edits ≡ front ++ edit ∷ rest
  pub behind : place ≡ length front + 1
  pub made : LeadTo n front next
  pub refused : after next (Single edit) ≡ Err error
  pub told : number ≡ number_of error

-- a batch is accepted exactly where it is one and its edits lead to a netlist, and it gives that netlist
abbrev pub BatchesAreReplays : Type 0
BatchesAreReplays =
    (n m : Circuit) (edits : List SingleEdit)
    → (after n (Batch edits) ≡ Ok m) ↔ (IsTrue (is_batch edits) × LeadTo n edits m)

-- a batch is refused for a place exactly where it is one and the edits before lead to a netlist on which the one there is refused
abbrev pub BatchesAreRefusedInPlace : Type 0
BatchesAreRefusedInPlace =
    (n : Circuit) (edits : List SingleEdit) (place number : ℕ)
    → (after n (Batch edits) ≡ Err (InBatch place number)) ↔ (IsTrue (is_batch edits) × IsRefusedAt n edits place number)

-- no edits, or too many, are refused as no batch, whatever they are, and nothing else is
abbrev pub BatchesHaveSizes : Type 0
BatchesHaveSizes = (n : Circuit) (edits : List SingleEdit) → (after n (Batch edits) ≡ Err BadBatch) ↔ IsFalse (is_batch edits)

-- some edit of a batch was refused
abbrev pub IsInBatch : EditError → Type 0
IsInBatch error = (place : ℕ) × ((number : ℕ) × (error ≡ InBatch place number))

-- a batch is refused for its size or for one of its edits, and for nothing else
abbrev pub BatchesAreRefusedSo : Type 0
BatchesAreRefusedSo =
    (n : Circuit) (edits : List SingleEdit) (error : EditError) → after n (Batch edits) ≡ Err error → (error ≡ BadBatch) ⊎ IsInBatch error
