-- The run of a netlist and the runs of its parts.
use Rattle.std.proofs.Common.{◌≡◌, ℕ, ◌-◌, ◌<◌, List, Option, Some, None, option_map, refl, ap, sym, ◌∙◌, arith}
use Rattle.mp_records.specs.declared.module_record.ModuleRecord.{ModuleRecord}
use Rattle.mp_netlist.specs.Circuit.{Circuit, IsCircuit, module_at}
use Rattle.mp_model.specs.Waves.{state}
use Rattle.mp_partition.specs.runs.Checkpoints.{state_before}
use Rattle.mp_partition.specs.runs.Runs.{end_memory}
use Rattle.mp_partition.specs.regions.Regions.{partition_of}
use Rattle.mp_redo.specs.apart.Parts.{part_of, AreUnconnected}
use Rattle.mp_redo.specs.apart.PartRuns.{RunsHavePartWaves, RunsHavePartEnds, RunsKeepPartStates, PartRunsHaveWaves, PartRunsHaveEnds, PartRunsKeepStates}
use Rattle.mp_redo.proofs.lemmas.apart.PartLemmas.{parts_have_modules}
use Rattle.mp_redo.proofs.lemmas.apart.PartLevelLemmas.{parts_have_waves, parts_have_states, parts_have_states_before}
use Rattle.mp_redo.proofs.lemmas.apart.RunSlotLemmas.{runs_keep_states}

-- ---- the wires that no other part drives

pub runs_have_part_waves : RunsHavePartWaves
runs_have_part_waves n ok homes apart run is k w within = is.waves w ∙ sym (parts_have_waves n ok homes apart k w within)

pub part_runs_have_waves : PartRunsHaveWaves
part_runs_have_waves n ok homes apart k run is w within = is.waves w ∙ parts_have_waves n ok homes apart k w within

-- ---- the modules that are at home in the part

module _ (n : Circuit) (ok : IsCircuit n) (homes : List ℕ) (apart : AreUnconnected n homes) (k m : ℕ) (home : partition_of homes m ≡ k) where
  same_end : end_memory (part_of n homes k) m ≡ end_memory n m
  same_end = ap (option_map (λ (r : ModuleRecord). state (part_of n homes k) m (n.horizon - 1))) (parts_have_modules n homes k m home) ∙ by (module_at n m) refl
    where
      by : (slot : Option ModuleRecord) → module_at n m ≡ slot
          → option_map (λ (r : ModuleRecord). state (part_of n homes k) m (n.horizon - 1)) slot ≡ option_map (λ (r : ModuleRecord). state n m (n.horizon - 1)) slot
      by None at = refl
      by (Some r) at = ap Some (parts_have_states n ok homes apart k m (n.horizon - 1) r home at (let low = ok.horizon_low in omega (arith, low)))

  same_before : (c : ℕ) → c < n.horizon
      → option_map (λ (r : ModuleRecord). state_before (part_of n homes k) m r c) (module_at (part_of n homes k) m) ≡ option_map (λ (r : ModuleRecord). state_before n m r c) (module_at n m)
  same_before c low = ap (option_map (λ (r : ModuleRecord). state_before (part_of n homes k) m r c)) (parts_have_modules n homes k m home) ∙ by (module_at n m) refl
    where
      by : (slot : Option ModuleRecord) → module_at n m ≡ slot
          → option_map (λ (r : ModuleRecord). state_before (part_of n homes k) m r c) slot ≡ option_map (λ (r : ModuleRecord). state_before n m r c) slot
      by None at = refl
      by (Some r) at = ap Some (parts_have_states_before n ok homes apart k m c r home at low)

pub runs_have_part_ends : RunsHavePartEnds
runs_have_part_ends n ok homes apart run is k m home = is.ends m ∙ sym (same_end n ok homes apart k m home)

pub runs_keep_part_states : RunsKeepPartStates
runs_keep_part_states n ok homes apart run is k m r home at c border low = runs_keep_states n run is m r at c border low ∙ sym (same_before n ok homes apart k m home c low)

pub part_runs_have_ends : PartRunsHaveEnds
part_runs_have_ends n ok homes apart k run is m home = is.ends m ∙ same_end n ok homes apart k m home

pub part_runs_keep_states : PartRunsKeepStates
part_runs_keep_states n ok homes apart k run is m r home at c border low =
    runs_keep_states (part_of n homes k) run is m r (parts_have_modules n homes k m home ∙ at) c border low ∙ same_before n ok homes apart k m home c low
