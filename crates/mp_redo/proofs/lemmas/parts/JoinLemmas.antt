-- What a change makes of the parts, each on its own thread.
use Rattle.std.proofs.Common.{◌≡◌, ℕ, ◌<◌, List, length, slice_index_or, Result, Ok, IfOk, ◌∙◌, subst, arith}
use Rattle.mp_phase.specs.Phase.{AreDone}
use Rattle.mp_phase.proofs.PhaseLemmas.{are_done-length, are_done-at}
use Rattle.mp_redo.specs.declared.parts.parts_change.PartsChange.{PartsChange}
use Rattle.mp_redo.specs.declared.parts.redone.Redone.{Redone}
use Rattle.mp_redo.specs.parts.Redone.{IsRedone, AreRedone}

-- the result is this part
abbrev pub is_part : {E : Type 0} → Result Redone E → Redone → Type 0
is_part result part = result ≡ Ok part

-- where each result is what the change makes of a part, and all are parts, these are all parts
pub all_redone : {E : Type 0} (change : PartsChange) (results : List (Result Redone E)) (parts : List Redone) → length results ≡ change.partition.now.division.parts →
    ((k : ℕ) (d : Result Redone E) → k < change.partition.now.division.parts → IfOk (slice_index_or results k d) (IsRedone change k)) →
    AreDone is_part results parts → AreRedone change parts
all_redone change results parts count each are = record {
  places = are_done-length is_part results parts are ∙ count;
  each = λ k d low. subst (λ (result : Result Redone _). IfOk result (IsRedone change k))
      (are_done-at is_part results parts k (Ok d) d are (omega (arith, low, count))) (each k (Ok d) low);
}
