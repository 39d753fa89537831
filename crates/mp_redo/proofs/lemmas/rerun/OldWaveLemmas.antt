-- What the old run has of wires.
use Rattle.std.proofs.Common.{◌≡◌, ℕ, ◌-◌, ◌<◌, ◌≤◌, ◌^◌, false, not, inl, inr, Option, Some, None, IsSome, refl, ap, sym, subst, ◌∙◌, arith}
use Rattle.std.specs.Prelude.{◌==◌}
use Rattle.std.proofs.lemmas.Bool.{cases_lt, eqb-true, not-false}
use Rattle.mp_wave.specs.Waveform.{Waveform, IsWaveform, level_of, last_time}
use Rattle.mp_wave.proofs.ChangesLemmas.{levels_of_wave, form_of_wave, last_time-changes_after}
use Rattle.mp_records.specs.declared.wire_record.WireRecord.{WireRecord}
use Rattle.mp_netlist.specs.Circuit.{Circuit, IsCircuit, wire_at, width_of}
use Rattle.mp_model.specs.Waves.{level, wave, slot_wave}
use Rattle.mp_model.proofs.TrackLemmas.{stays}
use Rattle.mp_model.proofs.LevelFitLemmas.{level_fits}
use Rattle.mp_simulation.specs.units.DataLevels.{has_data, is_data}
use Rattle.mp_partition.specs.runs.Outcomes.{Outcome, wave_of}
use Rattle.mp_partition.specs.runs.Runs.{IsRun}
use Rattle.mp_depend.specs.work.Revisions.{IsRevision}

-- the wave that is kept of a wire
pub wave_is : (old : Circuit) (run : Outcome) → IsRun old run → (w : ℕ) (v : Waveform) → Some v ≡ wave_of run w → v ≡ wave old w
wave_is old run are w v is = by (wire_at old w) (is ∙ are.waves w)
  where
    by : (slot : Option WireRecord) → Some v ≡ slot_wave old w slot → v ≡ wave old w
    by None fails = cc
    by (Some r) same = cc

pub old_levels : (old : Circuit) (run : Outcome) → IsRun old run → (w : ℕ) (v : Waveform) → Some v ≡ wave_of run w → (u : ℕ) → u < old.horizon → level_of v u ≡ level old w u
old_levels old run are w v is u below = ap (λ (x : Waveform). level_of x u) (wave_is old run are w v is) ∙ levels_of_wave (level old w) (old.horizon - 1) u (omega (arith, below))

pub old_form : (old : Circuit) (run : Outcome) → IsRun old run → (w : ℕ) (v : Waveform) → Some v ≡ wave_of run w → IsWaveform v
old_form old run are w v is = let e = wave_is old run are w v is in subst IsWaveform (sym e) (form_of_wave (level old w) (old.horizon - 1))

-- a wire of width 1 has no other levels than 0 and 1
pub old_low : (old new : Circuit) → IsCircuit old → IsRevision old new → (run : Outcome) → IsRun old run → (w : ℕ) (v : Waveform) → Some v ≡ wave_of run w → IsSome (wire_at new w) → is_data new w ≡ false →
    (u : ℕ) → level_of v u ≤ 1
old_low old new ok revised run are w v is stands narrow u = by (wire_at old w) refl (wire_at new w) refl (is ∙ are.waves w) stands narrow
  where
    fits : (r s : WireRecord) → wire_at old w ≡ Some r → wire_at new w ≡ Some s → not (s.width == 1) ≡ false → (t : ℕ) → level old w t ≤ 1
    fits r s before after one t =
        let width : s.width ≡ 1 = eqb-true s.width 1 (not-false (s.width == 1) one) in
        let same = revised.widths w r s before after in
        let below : level old w t < 2 ^ r.width = subst (λ (slot : Option WireRecord). level old w t < 2 ^ width_of slot) before (level_fits old ok w t) in
        let low : level old w t < 2 ^ 1 = subst (λ k. level old w t < 2 ^ k) (same ∙ width) below in
        omega (arith, low)

    of_wave : ((t : ℕ) → level old w t ≤ 1) → level_of (wave old w) u ≤ 1
    of_wave low = elim (cases_lt u old.horizon) as (λ _. level_of (wave old w) u ≤ 1) [
      | inl soon ↦ subst (λ k. k ≤ 1) (sym (levels_of_wave (level old w) (old.horizon - 1) u (omega (arith, soon)))) (low u)
      | inr late ↦
          let end = old.horizon - 1 in
          let last : last_time 0 (wave old w).changes ≤ end = (let upto = last_time-changes_after (level old w) 0 (old.horizon - 1) in omega (arith, upto)) in
          subst (λ k. k ≤ 1)
          (sym (stays (wave old w) (old.horizon - 1) u (form_of_wave (level old w) (old.horizon - 1)) last (omega (arith, late)) ∙ levels_of_wave (level old w) (old.horizon - 1) (old.horizon - 1) (omega arith))) (low (old.horizon - 1))
    ]

    by : (one : Option WireRecord) → wire_at old w ≡ one → (other : Option WireRecord) → wire_at new w ≡ other → Some v ≡ slot_wave old w one → IsSome other → has_data other ≡ false → level_of v u ≤ 1
    by None before other after fails some kind = let no : ⊥ = cc in absurd no
    by (Some r) before None after same fails kind = let no : ⊥ = cc in absurd no
    by (Some r) before (Some s) after same some kind =
        let e : v ≡ wave old w = cc in
        subst (λ (x : Waveform). level_of x u ≤ 1) (sym e) (of_wave (fits r s before after kind))

-- a wire that stands has one
pub no_old_wave : (old : Circuit) (run : Outcome) → IsRun old run → (w : ℕ) → None ≡ wave_of run w → IsSome (wire_at old w) → ⊥
no_old_wave old run are w none stands = by (wire_at old w) (none ∙ are.waves w) stands
  where
    by : (slot : Option WireRecord) → None ≡ slot_wave old w slot → IsSome slot → ⊥
    by None same some = cc
    by (Some r) fails some = cc
