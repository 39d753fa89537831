-- A module whose inputs rest in the old run keeps its state.
use Rattle.std.proofs.Common.{◌≡◌, ℕ, ◌+◌, ◌-◌, ◌<◌, ◌≤◌, List, [], All, Some, zero, suc, ap, sym, subst, ◌∙◌, arith}
use Rattle.mp_wave.specs.Waveform.{Waveform, IsWaveform, level_from, level_of, between}
use Rattle.mp_wave.proofs.PrefixLemmas.{cut_levels}
use Rattle.mp_records.specs.declared.module_record.ModuleRecord.{ModuleRecord}
use Rattle.mp_netlist.specs.Circuit.{Circuit, IsCircuit, module_at}
use Rattle.mp_model.specs.Levels.{inputs_by}
use Rattle.mp_model.specs.Waves.{level, state}
use Rattle.mp_model.proofs.QuietLemmas.{same_inputs}
use Rattle.mp_partition.specs.runs.Checkpoints.{state_before}
use Rattle.mp_partition.specs.runs.Outcomes.{Outcome}
use Rattle.mp_partition.specs.runs.Runs.{IsRun}
use Rattle.mp_active.specs.compare.Comparing.{old_wave}
use Rattle.mp_redo.specs.rerun.Resting.{HasRested}
use Rattle.mp_redo.proofs.lemmas.rerun.KeepingLemmas.{before_is}
use Rattle.mp_redo.proofs.lemmas.rerun.OldStateLemmas.{map_same, old_inputs}

-- where no change comes after a time up to another one, the level is that of the first
pub level_rests : (wave : Waveform) (first last t : ℕ) → IsWaveform wave → between first (last + 1) wave.changes ≡ [] → first ≤ t → t ≤ last → level_of wave t ≡ level_of wave first
level_rests wave first last t form none least most =
    sym (cut_levels wave first (last + 1) t form least (omega (arith, most))) ∙ ap (λ (xs : List (ℕ × ℕ)). level_from (level_of wave first) xs t) none

module _ (old : Circuit) (ok : IsCircuit old) (run : Outcome) (is : IsRun old run) where
  -- so many units after one its state is that of it
  rests_on : (m c n : ℕ) (r : ModuleRecord) → module_at old m ≡ Some r → c + n < old.horizon → All (HasRested run (c + 1) (c + n + 1)) r.inputs → state old m (c + n) ≡ state old m c
  rests_on m c zero r at low rest = let same : c + 0 ≡ c = omega arith in ap (state old m) same
  rests_on m c (suc n) r at low rest =
      let next : c + n + 1 ≡ c + suc n = omega arith in
      let here : inputs_by old (level old) r (c + n + 1) ≡ inputs_by old (level old) r (c + n) =
      sym (old_inputs old ok run is m (c + n + 1) r at (omega (arith, low)))
      ∙ map_same (λ i. level_of (old_wave run i.wire.0) (c + n + 1 - i.delay)) (λ i. level_of (old_wave run i.wire.0) (c + n - i.delay)) r.inputs
      (λ i has.
      let one : HasRested run (c + 1) (c + suc n + 1) i = subst (HasRested run (c + 1) (c + suc n + 1)) has.2 (rest has.0 i has.1) in
      one (c + n + 1) (omega arith) (omega arith) ∙ sym (one (c + n) (omega arith) (omega arith)))
      ∙ old_inputs old ok run is m (c + n) r at (omega (arith, low)) in
      subst (λ k. state old m k ≡ state old m c) next
      (same_inputs old ok m (c + n) r at here ∙ rests_on m c n r at (omega (arith, low)) (λ k i within t least less. rest k i within t least (omega (arith, less))))

  -- so its state before a time is that before another one, since which they have rested
  pub rested_state : (m from to : ℕ) (r : ModuleRecord) → module_at old m ≡ Some r → 0 < from → from ≤ to → to < old.horizon → All (HasRested run from to) r.inputs
      → state_before old m r from ≡ state_before old m r to
  rested_state m from to r at some within low rest =
      let begin : from - 1 + 1 ≡ from = omega (arith, some) in
      let end : from - 1 + (to - from) + 1 ≡ to = omega (arith, some, within) in
      let last : from - 1 + (to - from) ≡ to - 1 = omega (arith, some, within) in
      let rested : All (HasRested run (from - 1 + 1) (from - 1 + (to - from) + 1)) r.inputs = subst (λ b. All (HasRested run b (from - 1 + (to - from) + 1)) r.inputs) (sym begin) (subst (λ e. All (HasRested run from e) r.inputs) (sym end) rest) in
      before_is old m from r some ∙ sym (rests_on m (from - 1) (to - from) r at (omega (arith, some, within, low)) rested)
      ∙ ap (state old m) last ∙ sym (before_is old m to r (omega (arith, some, within)))
