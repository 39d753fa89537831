-- The levels at the ports of modules at time 0, one module after the other.
use Rattle.std.proofs.Common.{◌≡◌, ℕ, ◌+◌, ◌<◌, List, [], ◌∷◌, ◌++◌, Some, length, sym, ap, ◌∙◌, arith, inl, inr}
use Rattle.std.proofs.lemmas.Bool.{cases_eq}
use Rattle.std.proofs.lemmas.List.{get_or_append_left, get_or_push, length_push}
use Rattle.mp_records.specs.declared.module_record.ModuleRecord.{ModuleRecord}
use Rattle.mp_netlist.specs.Circuit.{Circuit, module_at}
use Rattle.mp_model.specs.Waves.{state}
use Rattle.mp_modules.specs.declared.automata.port_levels.PortLevels.{PortLevels}
use Rattle.mp_modules.specs.automata.PortLevels.{levels_code}
use Rattle.mp_kernel.specs.events.LevelFlips.{levels_at}
use Rattle.mp_simulation.specs.run.Settling.{AreFirstLevels}

-- those of one module more
pub levels_next : (n : Circuit) (m : ℕ) (levels new : List PortLevels) (l : PortLevels) → AreFirstLevels n m levels → new ≡ levels ++ l ∷ [] →
    ((r : ModuleRecord) → module_at n m ≡ Some r → l.0 ≡ levels_code (state n m 0)) → AreFirstLevels n (m + 1) new
levels_next n m levels new l are pushed own = record {
  places = ap (length {A = PortLevels}) pushed ∙ length_push levels l ∙ ap (λ k. k + 1) are.places;
  each = λ k r low at. ap (λ xs. levels_at xs k) pushed ∙ by_place k r low at;
}
  where
    by_place : (k : ℕ) (r : ModuleRecord) → k < m + 1 → module_at n k ≡ Some r → levels_at (levels ++ l ∷ []) k ≡ levels_code (state n k 0)
    by_place k r low at = elim (cases_eq k m) as (λ _. levels_at (levels ++ l ∷ []) k ≡ levels_code (state n k 0)) [
      | inl same ↦
          ap (λ (x : PortLevels). x.0) (get_or_push levels l (record { 0 = 0 }) k (let a = are.places in omega arith))
          ∙ own r (ap (module_at n) (sym same) ∙ at)
          ∙ ap (λ j. levels_code (state n j 0)) (sym same)
      | inr other ↦
          ap (λ (x : PortLevels). x.0) (get_or_append_left levels (l ∷ []) (record { 0 = 0 }) k (let a = are.places in omega arith))
          ∙ are.each k r (omega arith) at
    ]
