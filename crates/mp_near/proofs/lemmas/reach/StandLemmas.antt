-- Wires at ports stand, and ports of modules that stay the same drive the same wires.
use Rattle.std.proofs.Common.{◌≡◌, ℕ, ◌+◌, ◌<◌, Bool, true, false, List, Option, Some, None, is_some, length, refl, ap, sym, subst, ◌∙◌, arith, inl, inr}
use Rattle.std.specs.Prelude.{IsSome}
use Rattle.std.proofs.lemmas.Bool.{cases_lt}
use Rattle.std.proofs.lemmas.List.{get_or_past}
use Rattle.mp_records.specs.declared.ports.Input.{Input}
use Rattle.mp_netlist.specs.Circuit.{Circuit, IsCircuit, Drives, wire_at, module_at}
use Rattle.mp_netlist.proofs.DriverLemmas.{driven_stands}
use Rattle.mp_model.proofs.SlotLemmas.{some_within}
use Rattle.mp_partition.specs.runs.Marks.{is_marked}
use Rattle.mp_partition.specs.regions.Readers.{Reads}

-- a port of a module that has the same record in both netlists
pub drives_new : (old new : Circuit) (m p w : ℕ) → module_at old m ≡ module_at new m → Drives old m p w → Drives new m p w
drives_new old new m p w same drives = record { part = drives.part; stands = sym same ∙ drives.stands; output = drives.output }

pub drives_old : (old new : Circuit) (m p w : ℕ) → module_at old m ≡ module_at new m → Drives new m p w → Drives old m p w
drives_old old new m p w same drives = record { part = drives.part; stands = same ∙ drives.stands; output = drives.output }

some_true : {A : Type 0} (slot : Option A) → is_some slot ≡ true → IsSome slot
some_true None is = cc
some_true (Some x) is = refl

-- the wire that a port drives stands
pub driven : (n : Circuit) → IsCircuit n → (m p w : ℕ) → Drives n m p w → IsSome (wire_at n w)
driven n ok m p w drives = some_true (wire_at n w) (driven_stands n ok m p w drives)

-- so does a wire that is read
pub read_stands : (n : Circuit) → IsCircuit n → (m w : ℕ) → Reads n m w → IsSome (wire_at n w)
read_stands n ok m w reads =
    let at = reads.input in
    let has = (ok.modules_ok m reads.part reads.stands).reads at.0 reads.port at.1 in
    subst (λ v. IsSome (wire_at n v)) (ap (λ (i : Input). i.wire.0) at.2 ∙ reads.wire) has.0

-- the number of a wire at a port is below the count of wires in the new netlist
pub driven_low : (n new : Circuit) → IsCircuit n → length n.wires < length new.wires + 1 → (m p w : ℕ) → Drives n m p w → w < length new.wires
driven_low n new ok more m p w drives = let low = some_within n.wires w (driven n ok m p w drives) in omega (arith, low, more)

pub read_low : (n new : Circuit) → IsCircuit n → length n.wires < length new.wires + 1 → (m w : ℕ) → Reads n m w → w < length new.wires
read_low n new ok more m w reads = let low = some_within n.wires w (read_stands n ok m w reads) in omega (arith, low, more)

-- what is marked has a mark
pub marked_within : (marks : List Bool) (k : ℕ) → is_marked marks k ≡ true → k < length marks
marked_within marks k is = elim (cases_lt k (length marks)) as (λ _. k < length marks) [
  | inl here ↦ here
  | inr past ↦ let none : is_marked marks k ≡ false = get_or_past marks k false past in cc
]
