-- What parts of a netlist give is what the netlist gives.
use Rattle.std.proofs.Common.{◌≡◌, ℕ, ◌-◌, ◌<◌, Bool, true, List, [], ◌∷◌, Option, Some, None, map, option_map, length, slice_index_or, refl, ap, sym, ◌∙◌, arith, inl, inr}
use Rattle.std.proofs.lemmas.Bool.{cases_lt}
use Rattle.std.proofs.lemmas.List.{get_or_past, get_or-map}
use Rattle.mp_modules.specs.Memories.{blank}
use Rattle.mp_records.specs.declared.module_record.ModuleRecord.{ModuleRecord}
use Rattle.mp_netlist.specs.Slots.{slot_at}
use Rattle.mp_netlist.specs.Circuit.{Circuit, IsCircuit, wire_at, module_at}
use Rattle.mp_model.specs.Waves.{state, slot_wave}
use Rattle.mp_partition.specs.declared.runs.checkpoint.Checkpoint.{Checkpoint}
use Rattle.mp_partition.specs.declared.merging.part_run.PartRun.{PartRun}
use Rattle.mp_partition.specs.runs.Checkpoints.{kept_at, state_before, IsBorder}
use Rattle.mp_partition.specs.regions.Divisions.{heard_by, IsDivision}
use Rattle.mp_partition.specs.runs.Outcomes.{AreSlots}
use Rattle.mp_partition.specs.merging.PartRuns.{kept_in, AreRuns, HaveWaves}
use Rattle.mp_partition.specs.runs.Runs.{AreCheckpoints, end_memory}
use Rattle.mp_partition.specs.regions.Regions.{partition_of, region}
use Rattle.mp_partition.proofs.lemmas.runs.OutcomeLemmas.{no_module}
use Rattle.mp_partition.proofs.lemmas.regions.DivisionLemmas.{divided_apart, divided_closed, divided_seen}
use Rattle.mp_partition.proofs.lemmas.regions.PartLemmas.{region_state, region_before, region_wave}
use Rattle.mp_partition.proofs.lemmas.regions.RegionLemmas.{length_at_home, module_here}

-- the wave of a wire, from the part whose modules drive it
pub divided_wave : (n : Circuit) → IsCircuit n → (homes wires : List ℕ) (heards : List (List Bool)) (parts w part : ℕ) (runs : List PartRun) (d : PartRun) → IsDivision n homes wires heards parts → HaveWaves n homes heards parts runs
    → w < length n.wires → part < parts → (partition_of wires w < parts → partition_of wires w ≡ part) → slot_at (slice_index_or runs part d).waves w ≡ slot_wave n w (wire_at n w)
divided_wave n ok homes wires heards parts w part runs d is are within low at =
    are.each part d low w
    ∙ region_wave n ok homes part (heard_by heards part) (divided_apart n homes wires heards parts part is) (divided_closed n homes wires heards parts part is) w (divided_seen n homes wires heards parts w part is at)

pub have_waves : (n : Circuit) (homes : List ℕ) (heards : List (List Bool)) (parts : ℕ) (keeps : Bool) (runs : List PartRun) → AreRuns n homes heards parts keeps runs → HaveWaves n homes heards parts runs
have_waves n homes heards parts keeps runs are = record { places = are.places; each = λ k d low. (are.each k d low).waves }

-- what stands in a module's slot in its own part
home_slot : (n : Circuit) (homes : List ℕ) (heards : List (List Bool)) (m : ℕ) → module_at (region n homes (partition_of homes m) (heard_by heards (partition_of homes m))) m ≡ module_at n m
home_slot n homes heards m = module_here n homes (partition_of homes m) (heard_by heards (partition_of homes m)) m refl

-- the last state of a module, from its own part
pub divided_end : (n : Circuit) → IsCircuit n → (homes wires : List ℕ) (heards : List (List Bool)) (parts m : ℕ) (runs : List PartRun) (d : PartRun) → IsDivision n homes wires heards parts → AreRuns n homes heards parts true runs
    → m < length n.modules → slot_at (slice_index_or runs (partition_of homes m) d).ends.items m ≡ end_memory n m
divided_end n ok homes wires heards parts m runs d is are within =
    let part = partition_of homes m in
    let there = region n homes part (heard_by heards part) in
    let places = length_at_home homes part 0 n.modules in
    ((are.each part d (is.few m)).ends refl).each m (omega (arith, within, places))
    ∙ ap (option_map (λ (r : ModuleRecord). state there m (n.horizon - 1))) (home_slot n homes heards m)
    ∙ by (module_at n m) refl
  where
    by : (slot : Option ModuleRecord) → module_at n m ≡ slot
        → option_map (λ (r : ModuleRecord). state (region n homes (partition_of homes m) (heard_by heards (partition_of homes m))) m (n.horizon - 1)) slot ≡ option_map (λ (r : ModuleRecord). state n m (n.horizon - 1)) slot
    by None at = refl
    by (Some r) at = ap Some (region_state n ok homes (partition_of homes m) (heard_by heards (partition_of homes m)) (divided_apart n homes wires heards parts (partition_of homes m) is)
        (divided_closed n homes wires heards parts (partition_of homes m) is) m (n.horizon - 1) r (let low = ok.horizon_low in omega (arith, low)) (home_slot n homes heards m ∙ at))

-- its states before checkpoints, from its own part
pub divided_checkpoint : (n : Circuit) → IsCircuit n → (homes wires : List ℕ) (heards : List (List Bool)) (parts m c : ℕ) (runs : List PartRun) (d : PartRun) → IsDivision n homes wires heards parts → AreRuns n homes heards parts true runs
    → IsBorder n.horizon c → c < n.horizon
    → option_map (λ ks. kept_at ks c blank) (slot_at (kept_in (slice_index_or runs (partition_of homes m) d)) m) ≡ option_map (λ (r : ModuleRecord). state_before n m r c) (module_at n m)
divided_checkpoint n ok homes wires heards parts m c runs d is are border low =
    let part = partition_of homes m in
    let there = region n homes part (heard_by heards part) in
    ((are.each part d (is.few m)).kept refl).each m c border low
    ∙ ap (option_map (λ (r : ModuleRecord). state_before there m r c)) (home_slot n homes heards m)
    ∙ by (module_at n m) refl
  where
    by : (slot : Option ModuleRecord) → module_at n m ≡ slot
        → option_map (λ (r : ModuleRecord). state_before (region n homes (partition_of homes m) (heard_by heards (partition_of homes m))) m r c) slot ≡ option_map (λ (r : ModuleRecord). state_before n m r c) slot
    by None at = refl
    by (Some r) at = ap Some (region_before n ok homes (partition_of homes m) (heard_by heards (partition_of homes m)) (divided_apart n homes wires heards parts (partition_of homes m) is)
        (divided_closed n homes wires heards parts (partition_of homes m) is) m c r low (home_slot n homes heards m ∙ at))

-- the checkpoints of all modules, each from its own part
pub divided_checkpoints : (n : Circuit) → IsCircuit n → (homes wires : List ℕ) (heards : List (List Bool)) (parts : ℕ) (runs : List PartRun) (kept : List (Option (List Checkpoint))) → IsDivision n homes wires heards parts → AreRuns n homes heards parts true runs
    → AreSlots (length n.modules) (λ m. slot_at (slice_index_or (map kept_in runs) (partition_of homes m) []) m) kept → AreCheckpoints n kept
divided_checkpoints n ok homes wires heards parts [] kept is are slots = absurd (let places = are.places in let some = is.some in let no : ⊥ = omega (arith, places, some) in no)
divided_checkpoints n ok homes wires heards parts (d ∷ ds) kept is are slots = record {
  places = slots.places;
  each = λ m c border low. elim (cases_lt m (length n.modules)) as (λ _. option_map (λ ks. kept_at ks c blank) (slot_at kept m) ≡ option_map (λ (r : ModuleRecord). state_before n m r c) (module_at n m)) [
    | inl within ↦
        let few = is.few m in
        let places = are.places in
        let found = get_or-map kept_in (d ∷ ds) (partition_of homes m) d [] (omega (arith, few, places)) in
        ap (option_map (λ ks. kept_at ks c blank)) (slots.each m within ∙ ap (λ (xs : List (Option (List Checkpoint))). slot_at xs m) found)
        ∙ divided_checkpoint n ok homes wires heards parts m c (d ∷ ds) d is are border low
    | inr past ↦
        ap (option_map (λ ks. kept_at ks c blank)) (get_or_past kept m None (let places = slots.places in omega (arith, past, places)))
        ∙ sym (no_module n (λ (r : ModuleRecord). state_before n m r c) m past)
  ];
}
