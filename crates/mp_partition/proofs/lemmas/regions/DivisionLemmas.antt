-- The parts of a division, and what makes one.
use Rattle.std.proofs.Common.{◌≡◌, ℕ, ◌<◌, Bool, true, List, Some, None, length, ap, sym, subst, ◌∙◌, arith, inl, inr}
use Rattle.std.specs.Prelude.{All}
use Rattle.std.specs.List.{Contains}
use Rattle.std.proofs.lemmas.Bool.{cases_lt, false_from_ne_true}
use Rattle.std.proofs.lemmas.List.{get_or_past}
use Rattle.mp_records.specs.declared.ports.Input.{Input}
use Rattle.mp_records.specs.declared.ports.Output.{Output}
use Rattle.mp_records.specs.declared.module_record.ModuleRecord.{ModuleRecord}
use Rattle.mp_records.specs.Outputs.{output_at}
use Rattle.mp_netlist.specs.Circuit.{Circuit, module_at}
use Rattle.mp_partition.specs.runs.Marks.{is_marked}
use Rattle.mp_partition.specs.regions.Regions.{partition_of, HearsOthers}
use Rattle.mp_partition.specs.regions.Divisions.{heard_by, IsAtHome, IsDivision, IsDrivenAt, IsHeardThere, IsReadAt, IsWireAtHome}
use Rattle.mp_partition.proofs.lemmas.regions.PartLemmas.{IsClosed, IsKnownTo, IsSeen}

-- a part hears only of wires that others drive
pub divided_apart : (n : Circuit) (homes wires : List ℕ) (heards : List (List Bool)) (parts part : ℕ) → IsDivision n homes wires heards parts → HearsOthers n homes part (heard_by heards part)
divided_apart n homes wires heards parts part is m p w drives home =
    false_from_ne_true (is_marked (heard_by heards part) w) (λ heard. (is.heard part w heard).elsewhere ((is.at_home m).driven p w drives ∙ home))

-- the parts of a division read nothing that others drive, but what they hear
pub divided_closed : (n : Circuit) (homes wires : List ℕ) (heards : List (List Bool)) (parts part : ℕ) → IsDivision n homes wires heards parts → IsClosed n homes part (heard_by heards part)
divided_closed n homes wires heards parts part is m w home reads = by ((is.at_home m).read w reads)
  where
    by : IsWireAtHome wires (heard_by heards (partition_of homes m)) parts (partition_of homes m) w → IsKnownTo n homes part (heard_by heards part) w
    by (inl same) = inr (λ k p drives. sym ((is.at_home k).driven p w drives) ∙ same ∙ home)
    by (inr (inl past)) = inr (λ k p drives. absurd (let low = is.few k in let there = (is.at_home k).driven p w drives in let no : ⊥ = omega (arith, past, low, there) in no))
    by (inr (inr heard)) = inl (subst (λ k. is_marked (heard_by heards k) w ≡ true) home heard)

-- the part in which a wire's wave is right
pub divided_seen : (n : Circuit) (homes wires : List ℕ) (heards : List (List Bool)) (parts w part : ℕ) → IsDivision n homes wires heards parts → (partition_of wires w < parts → partition_of wires w ≡ part) → IsSeen n homes part w
divided_seen n homes wires heards parts w part is at m p drives = let there = (is.at_home m).driven p w drives in let low = is.few m in sym there ∙ at (omega (arith, there, low))

-- a module that doesn't stand has no wires
pub home_none : (n : Circuit) (homes wires : List ℕ) (heards : List (List Bool)) (parts m : ℕ) → module_at n m ≡ None → IsAtHome n homes wires heards parts m
home_none n homes wires heards parts m none = record {
  driven = λ p w drives. let at = drives.stands in let no : ⊥ = cc in absurd no;
  read = λ w reads. let at = reads.stands in let no : ⊥ = cc in absurd no;
}

-- the wires of a module that stands
pub home_some : (n : Circuit) (homes wires : List ℕ) (heards : List (List Bool)) (parts m : ℕ) (r : ModuleRecord) → module_at n m ≡ Some r → All (λ (output : Output). IsDrivenAt wires (partition_of homes m) output) r.outputs
    → All (λ (input : Input). IsReadAt wires (heard_by heards (partition_of homes m)) parts (partition_of homes m) input) r.inputs → IsAtHome n homes wires heards parts m
home_some n homes wires heards parts m r at outputs inputs = record {
  driven = λ p w drives.
      let stands : module_at n m ≡ Some drives.part = drives.stands in
      let same : drives.part ≡ r = cc in
      let names : (output_at r p).wire ≡ Some (record { 0 = w }) = subst (λ (x : ModuleRecord). (output_at x p).wire ≡ Some (record { 0 = w })) same drives.output in
      elim (cases_lt p (length r.outputs)) as (λ _. partition_of wires w ≡ partition_of homes m) [
        | inl within ↦ outputs p (record { wire = None; delay = 1 }) within w names
        | inr past ↦ let none = ap (λ (o : Output). o.wire) (get_or_past r.outputs p (record { wire = None; delay = 1 }) past) in let no : ⊥ = cc in absurd no
      ];
  read = λ w reads.
      let stands : module_at n m ≡ Some reads.part = reads.stands in
      let same : reads.part ≡ r = cc in
      let has : Contains r.inputs reads.port = subst (λ (x : ModuleRecord). Contains x.inputs reads.port) same reads.input in
      let found = inputs has.0 reads.port has.1 in
      subst (λ v. IsReadAt wires (heard_by heards (partition_of homes m)) parts (partition_of homes m) (let i : Input = record { wire = record { 0 = v }; delay = 0 } in i)) reads.wire
      (subst (λ (i : Input). IsReadAt wires (heard_by heards (partition_of homes m)) parts (partition_of homes m) i) has.2 found);
}

-- all modules, when those that may stand are
pub division_is : (n : Circuit) (homes wires : List ℕ) (heards : List (List Bool)) (parts : ℕ) → 0 < parts → All (λ (home : ℕ). home < parts) homes → ((m : ℕ) → m < length n.modules → IsAtHome n homes wires heards parts m)
    → ((k w : ℕ) → is_marked (heard_by heards k) w ≡ true → IsHeardThere n wires k w) → IsDivision n homes wires heards parts
division_is n homes wires heards parts some few at_home heard = record {
  heard = heard;
  some = some;
  at_home = λ m. elim (cases_lt m (length n.modules)) as (λ _. IsAtHome n homes wires heards parts m) [
    | inl within ↦ at_home m within
    | inr past ↦ home_none n homes wires heards parts m (get_or_past n.modules m None past)
  ];
  few = λ m. elim (cases_lt m (length homes)) as (λ _. partition_of homes m < parts) [
    | inl within ↦ few m 0 within
    | inr past ↦ let none = get_or_past homes m 0 past in omega (arith, none, some)
  ];
}
