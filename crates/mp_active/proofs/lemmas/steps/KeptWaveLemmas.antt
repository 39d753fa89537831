-- A wave that is kept up to a time is that of the levels up to it.
use Rattle.std.proofs.Common.{◌≡◌, ℕ, suc, zero, ◌+◌, ◌-◌, ◌≤◌, Bool, true, false, cond, List, [], ◌∷◌, ◌++◌, map, refl, ap, sym, ◌∙◌, arith, inl, inr}
use Rattle.std.specs.Prelude.{◌==◌}
use Rattle.std.proofs.lemmas.Bool.{cases_lt}
use Rattle.std.proofs.lemmas.List.{map-append}
use Rattle.mp_wave.specs.Waveform.{Waveform, IsWaveform, level_of, kept_before, wave_upto, change_after, changes_after}
use Rattle.mp_wave.specs.ToggleWaves.{times_upto}
use Rattle.mp_wave.proofs.WaveformLemmas.{same_levels}
use Rattle.mp_wave.proofs.ChangesLemmas.{levels_of_wave, form_of_wave, last_time-changes_after}
use Rattle.mp_wave.proofs.PrefixLemmas.{kept_levels, AreChanges-earlier_than}
use Rattle.mp_model.proofs.TrackLemmas.{stays}
use Rattle.mp_simulation.specs.bits.Traces.{time_of, IsTrace}

module _ (level : ℕ → ℕ) (now : ℕ) (wave : Waveform) (form : IsWaveform wave) (agree : (u : ℕ) → u ≤ now → level_of wave u ≡ level u) where
  level_kept : (u : ℕ) → level_of (kept_before (now + 1) wave) u ≡ level_of (wave_upto level now) u
  level_kept u = elim (cases_lt u (now + 1)) as (λ _. level_of (kept_before (now + 1) wave) u ≡ level_of (wave_upto level now) u) [
    | inl before ↦ (kept_levels wave (now + 1) u form (omega arith)).0 before ∙ agree u (omega (arith, before)) ∙ sym (levels_of_wave level now u (omega (arith, before)))
    | inr after ↦
        let last : now + 1 - 1 ≡ now = omega arith in
        let over = last_time-changes_after level 0 now in
        (kept_levels wave (now + 1) u form (omega arith)).1 after
        ∙ ap (level_of wave) last
        ∙ agree now (omega arith)
        ∙ sym (levels_of_wave level now now (omega arith))
        ∙ sym (stays (wave_upto level now) now u (form_of_wave level now) (omega (arith, over)) (omega (arith, after)))
  ]

  pub kept_upto : kept_before (now + 1) wave ≡ wave_upto level now
  kept_upto = same_levels (kept_before (now + 1) wave) (wave_upto level now) (AreChanges-earlier_than (now + 1) 0 wave.initial wave.changes form) (form_of_wave level now) level_kept

-- ---- the times of its changes
one_time : (same : Bool) (time new : ℕ) → map time_of (cond same [] ((time, new) ∷ [])) ≡ cond same [] (time ∷ [])
one_time true time new = refl
one_time false time new = refl

upto_times : (level : ℕ → ℕ) (t : ℕ) → map time_of (changes_after level 0 t) ≡ times_upto level t
upto_times level zero = refl
upto_times level (suc t) =
    let e : 0 + t ≡ t = omega arith in
    map-append time_of (changes_after level 0 t) (change_after level (0 + t))
    ∙ ap (λ (xs : List ℕ). xs ++ map time_of (change_after level (0 + t))) (upto_times level t)
    ∙ ap (λ v. times_upto level t ++ map time_of (change_after level v)) e
    ∙ ap (λ (xs : List ℕ). times_upto level t ++ xs) (one_time (level t == level (suc t)) (suc t) (level (suc t)))

pub trace_upto : (level : ℕ → ℕ) (t : ℕ) → IsTrace level t (wave_upto level t)
trace_upto level t = record { times = upto_times level t; whole = λ low. refl }
