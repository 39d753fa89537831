-- The levels and states of a part.
use Rattle.std.proofs.Common.{◌≡◌, ℕ, ◌+◌, ◌-◌, ◌<◌, cond, nat_lt, List, [], ◌∷◌, ◌++◌, Option, Some, None, map, option_map, zero, suc, refl, ap, sym, ◌∙◌, arith, inr}
use Rattle.std.specs.List.{Contains}
use Rattle.std.proofs.lemmas.Bool.{eq-eqb}
use Rattle.mp_wave.specs.Waveform.{Waveform, change_after, changes_after, wave_upto}
use Rattle.mp_records.specs.declared.ports.Input.{Input}
use Rattle.mp_records.specs.declared.wire_record.WireRecord.{WireRecord}
use Rattle.mp_records.specs.declared.module_record.ModuleRecord.{ModuleRecord}
use Rattle.mp_netlist.specs.Circuit.{Circuit, IsCircuit, wire_at, module_at}
use Rattle.mp_model.specs.Levels.{initial_of, input_by, driven_level}
use Rattle.mp_model.specs.Waves.{level, state, slot_wave}
use Rattle.mp_model.specs.Reach.{inputs, slot_inputs}
use Rattle.mp_model.proofs.BehaviourLemmas.{satisfies}
use Rattle.mp_partition.specs.regions.Regions.{partition_of}
use Rattle.mp_partition.proofs.lemmas.regions.RegionLemmas.{initial_there}
use Rattle.mp_partition.proofs.lemmas.regions.PartLemmas.{IsClosed, region_state, region_level, region_before, region_wave}
use Rattle.mp_redo.specs.apart.Parts.{part_of, AreUnconnected, IsDrivenWithin}
use Rattle.mp_redo.specs.apart.PartLevels.{resting_wave, PartsHaveLevels, PartsHaveWaves, OthersRest, OthersHaveNoChanges, PartsHaveStates, PartsHaveStatesBefore, PartsHaveInputs}
use Rattle.mp_redo.proofs.lemmas.apart.PartLemmas.{hears_none, parts_have_wires, parts_have_modules, parts_are_circuits, others_are_undriven}

-- a part reads what it drives, if any port does
reads_within : (n : Circuit) (homes : List ℕ) → AreUnconnected n homes → (k : ℕ) → IsClosed n homes k []
reads_within n homes apart k m w home reads = inr (λ q p drives. sym (apart m w q p reads drives) ∙ home)

pub parts_have_levels : PartsHaveLevels
parts_have_levels n ok homes apart k w t within low = region_level n ok homes k [] (hears_none n homes k) (reads_within n homes apart k) w t (inr within) low

pub parts_have_waves : PartsHaveWaves
parts_have_waves n ok homes apart k w within = region_wave n ok homes k [] (hears_none n homes k) (reads_within n homes apart k) w within

pub others_rest : OthersRest
others_rest n ok homes k w t there =
    (satisfies (part_of n homes k) (parts_are_circuits n homes k ok)).levels w t
    ∙ ap (λ d. driven_level d (part_of n homes k) (state (part_of n homes k)) w t) (others_are_undriven n homes k w ok there)
    ∙ ap initial_of (parts_have_wires n homes k w)

-- a level that stays has no changes
no_changes : (f : ℕ → ℕ) (v count : ℕ) → ((t : ℕ) → f t ≡ v) → changes_after f 0 count ≡ []
no_changes f v zero same = refl
no_changes f v (suc c) same =
    ap (λ xs. xs ++ change_after f (0 + c)) (no_changes f v c same)
    ∙ ap (λ b. cond b [] ((suc (0 + c), f (suc (0 + c))) ∷ [])) (eq-eqb (f (0 + c)) (f (suc (0 + c))) (same (0 + c) ∙ sym (same (suc (0 + c)))))

-- so is its wave
resting : (f : ℕ → ℕ) (last : ℕ) (r : WireRecord) → ((t : ℕ) → f t ≡ r.initial) → wave_upto f last ≡ resting_wave r
resting f last r same =
    ap (λ v. let w : Waveform = record { initial = v; changes = changes_after f 0 last } in w) (same 0)
    ∙ ap (λ xs. let w : Waveform = record { initial = r.initial; changes = xs } in w) (no_changes f r.initial last same)

pub others_have_no_changes : OthersHaveNoChanges
others_have_no_changes n ok homes k w there = ap (slot_wave (part_of n homes k) w) (parts_have_wires n homes k w) ∙ by (wire_at n w) refl
  where
    by : (slot : Option WireRecord) → wire_at n w ≡ slot → slot_wave (part_of n homes k) w slot ≡ option_map resting_wave slot
    by None at = refl
    by (Some r) at = ap Some (resting (level (part_of n homes k) w) (n.horizon - 1) r (λ t. others_rest n ok homes k w t there ∙ ap initial_of at))

pub parts_have_states : PartsHaveStates
parts_have_states n ok homes apart k m t r home at low =
    region_state n ok homes k [] (hears_none n homes k) (reads_within n homes apart k) m t r low (parts_have_modules n homes k m home ∙ at)

pub parts_have_states_before : PartsHaveStatesBefore
parts_have_states_before n ok homes apart k m t r home at low =
    region_before n ok homes k [] (hears_none n homes k) (reads_within n homes apart k) m t r low (parts_have_modules n homes k m home ∙ at)

-- what has the levels of its wires
inputs_there : (n : Circuit) → IsCircuit n → (homes : List ℕ) → AreUnconnected n homes → (k t : ℕ) → t < n.horizon → (inputs : List Input) → ((i : Input) → Contains inputs i → IsDrivenWithin n homes k i.wire.0)
    → map (λ i. input_by (part_of n homes k) (level (part_of n homes k)) i t) inputs ≡ map (λ i. input_by n (level n) i t) inputs
inputs_there n ok homes apart k t low [] within = refl
inputs_there n ok homes apart k t low (i ∷ rest) within =
    let there = parts_have_levels n ok homes apart k i.wire.0 (t - i.delay) (within i (0, omega arith, refl)) (omega (arith, low)) in
    let others = inputs_there n ok homes apart k t low rest (λ j has. within j (suc has.0, omega (arith, has.1), has.2)) in
    let first : input_by (part_of n homes k) (level (part_of n homes k)) i t ≡ input_by n (level n) i t
    = ap (λ v. cond (nat_lt t i.delay) v (level (part_of n homes k) i.wire.0 (t - i.delay))) (initial_there n homes k [] i.wire.0)
    ∙ ap (cond (nat_lt t i.delay) (initial_of (wire_at n i.wire.0))) there in
    ap (λ x. x ∷ map (λ j. input_by (part_of n homes k) (level (part_of n homes k)) j t) rest) first ∙ ap (λ xs. input_by n (level n) i t ∷ xs) others

pub parts_have_inputs : PartsHaveInputs
parts_have_inputs n ok homes apart k m t r home at low =
    inputs_there n ok homes apart k t low r.inputs (λ i has q p drives. sym (apart m i.wire.0 q p (record { part = r; stands = at; port = i; input = has; wire = refl }) drives) ∙ home)

-- also of a module that doesn't stand
pub inputs_at_home : (n : Circuit) → IsCircuit n → (homes : List ℕ) → AreUnconnected n homes → (k m t : ℕ) → partition_of homes m ≡ k → t < n.horizon → inputs (part_of n homes k) m t ≡ inputs n m t
inputs_at_home n ok homes apart k m t home low = ap (λ slot. slot_inputs (part_of n homes k) slot t) (parts_have_modules n homes k m home) ∙ by (module_at n m) refl
  where
    by : (slot : Option ModuleRecord) → module_at n m ≡ slot → slot_inputs (part_of n homes k) slot t ≡ slot_inputs n slot t
    by None at = refl
    by (Some r) at = parts_have_inputs n ok homes apart k m t r home at low
