-- Lemmas on a builder that is given the level of each time in turn.
use Rattle.std.proofs.Common.{◌≡◌, ℕ, ◌<◌, ◌==◌, [], ◌∷◌, refl, arith, inl, inr}
use Rattle.std.proofs.lemmas.Bool.{cases_Bool, eqb-false}
use Rattle.mp_wave.specs.Waveform.{Waveform, IsWaveform, last_from, last_time, held_from}
use Rattle.mp_wave.proofs.WaveformLemmas.{AreChanges-append, last_time-append}

-- a level that is held leaves the first one
pub initial-held : (wave : Waveform) (time level : ℕ) → (held_from wave time level).initial ≡ wave.initial
initial-held wave time level =
    elim (cases_Bool (last_from wave.initial wave.changes == level)) as (λ _. (held_from wave time level).initial ≡ wave.initial) [
      | inl same ↦ rw same refl
      | inr other ↦ rw other refl
    ]

-- the last change comes before a time that is later than the changes so far and the time of the push
pub last_time-held : (wave : Waveform) (time level most : ℕ) → last_time 0 wave.changes < most → time < most → last_time 0 (held_from wave time level).changes < most
last_time-held wave time level most last less =
    elim (cases_Bool (last_from wave.initial wave.changes == level)) as (λ _. last_time 0 (held_from wave time level).changes < most) [
      | inl same ↦ rw same last
      | inr other ↦ let is = last_time-append 0 wave.changes ((time, level) ∷ []) in rw other (omega (arith, is, less))
    ]

-- a level that is held from a time after all changes leaves the wave in form
pub form-held : (wave : Waveform) (time level : ℕ) → IsWaveform wave → last_time 0 wave.changes < time → IsWaveform (held_from wave time level)
form-held wave time level form over =
    elim (cases_Bool (last_from wave.initial wave.changes == level)) as (λ _. IsWaveform (held_from wave time level)) [
      | inl same ↦ rw same form
      | inr other ↦ rw other (AreChanges-append 0 wave.initial wave.changes ((time, level) ∷ []) form (over, eqb-false (last_from wave.initial wave.changes) level other, tt))
    ]
