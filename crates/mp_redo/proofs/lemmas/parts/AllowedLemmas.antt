-- Who may enter in a part.
use Rattle.std.proofs.Common.{◌≡◌, ℕ, ◌<◌, Bool, true, inl, inr}
use Rattle.std.proofs.lemmas.Bool.{cases_eq}
use Rattle.mp_partition.specs.regions.Regions.{partition_of}
use Rattle.mp_depend.specs.work.Work.{IsEntry}
use Rattle.mp_phase.specs.Allowed.{IsAllowed}
use Rattle.mp_redo.proofs.lemmas.apart.PartWorkLemmas.{parts_have_work, others_dont_work}
use Rattle.mp_redo.specs.declared.parts.parts_change.PartsChange.{PartsChange}
use Rattle.mp_redo.specs.parts.Changes.{IsChange, homes_in, old_part, new_part}
use Rattle.mp_redo.proofs.lemmas.parts.WholeLemmas.{new_unconnected}

-- where those may enter who work in the netlist, those may who work in the part
pub part_allowed : (change : PartsChange) → IsChange change → (k : ℕ) → k < change.partition.now.division.parts → (may : ℕ → ℕ → ℕ → Bool)
    → IsAllowed (IsEntry change.old.now change.new.now) may → IsAllowed (IsEntry (old_part change k) (new_part change k)) may
part_allowed change is k low may allowed m from to works =
    elim (cases_eq (partition_of (homes_in change) m) k) as (λ _. may m from to ≡ true) [
      | inl home ↦
          allowed m from to
          ((parts_have_work change.old.now change.new.now is.old is.new is.revision (homes_in change) is.partition.unconnected (new_unconnected change is) k m from to (is.partition.least k low) home).0 works)
      | inr other ↦ absurd (others_dont_work change.old.now change.new.now (homes_in change) k m from to other works)
    ]
