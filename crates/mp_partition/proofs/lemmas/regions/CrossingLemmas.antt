-- Which ports drive what parts hear.
use Rattle.std.proofs.Common.{◌≡◌, ◌⊎◌, ℕ, ◌<◌, ◌≤◌, Bool, true, List, Some, None, All, length, sym, ap, subst, inl, inr}
use Rattle.std.proofs.lemmas.Bool.{cases_lt}
use Rattle.std.proofs.lemmas.List.{get_or_past}
use Rattle.mp_records.specs.declared.ports.Output.{Output}
use Rattle.mp_records.specs.declared.module_record.ModuleRecord.{ModuleRecord}
use Rattle.mp_records.specs.Outputs.{output_at, delay_of}
use Rattle.mp_netlist.specs.Circuit.{Circuit, Drives, module_at}
use Rattle.mp_partition.specs.runs.Marks.{is_marked}
use Rattle.mp_partition.specs.regions.Divisions.{heard_by, IsLateFor}

-- the outputs of a module are all ports of it that drive wires
pub late_for : (n : Circuit) (heards : List (List Bool)) (m : ℕ) (r : ModuleRecord) (delay : ℕ) → module_at n m ≡ Some r → All (λ (output : Output). IsLateFor heards output delay) r.outputs
    → (k p w : ℕ) (drives : Drives n m p w) → is_marked (heard_by heards k) w ≡ true → delay ≤ delay_of drives.part p
late_for n heards m r delay at outputs k p w drives marked =
    let stands : module_at n m ≡ Some drives.part = drives.stands in
    let same : drives.part ≡ r = cc in
    let names : (output_at r p).wire ≡ Some (record { 0 = w }) = subst (λ (x : ModuleRecord). (output_at x p).wire ≡ Some (record { 0 = w })) same drives.output in
    subst (λ (x : ModuleRecord). delay ≤ delay_of x p) (sym same) (elim (cases_lt p (length r.outputs)) as (λ _. delay ≤ delay_of r p) [
      | inl within ↦ outputs p (record { wire = None; delay = 1 }) within k w names marked
      | inr past ↦ let none = ap (λ (o : Output). o.wire) (get_or_past r.outputs p (record { wire = None; delay = 1 }) past) in let no : ⊥ = cc in absurd no
    ])

-- a module that stands has a slot
pub has_slot : (n : Circuit) (m p w : ℕ) → Drives n m p w → m < length n.modules
has_slot n m p w drives = by (cases_lt m (length n.modules))
  where
    by : (m < length n.modules) ⊎ (length n.modules ≤ m) → m < length n.modules
    by (inl low) = low
    by (inr past) =
        let none : module_at n m ≡ None = get_or_past n.modules m None past in
        let stands : module_at n m ≡ Some drives.part = drives.stands in
        absurd (let no : ⊥ = cc in no)
