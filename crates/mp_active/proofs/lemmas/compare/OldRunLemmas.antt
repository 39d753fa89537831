-- The run of a netlist, as an old one.
use Rattle.std.proofs.Common.{◌≡◌, ℕ, zero, suc, ◌-◌, ◌<◌, ◌≤◌, List, [], ◌∷◌, length, refl, sym, ap, ◌∙◌, arith, subst}
use Rattle.std.specs.Prelude.{Option, Some, None}
use Rattle.mp_wave.specs.Waveform.{Waveform, IsWaveform, AreChanges, level_of, last_time, changes_after}
use Rattle.mp_wave.specs.Faults.{pair_at}
use Rattle.mp_wave.proofs.ChangesLemmas.{levels_of_wave, form_of_wave, last_time-changes_after}
use Rattle.mp_records.specs.declared.wire_record.WireRecord.{WireRecord}
use Rattle.mp_netlist.specs.declared.driver.Driver.{Driver}
use Rattle.mp_netlist.specs.Circuit.{Circuit, IsCircuit, wire_at}
use Rattle.mp_netlist.proofs.DriverLemmas.{leaves_no_driver}
use Rattle.mp_model.specs.Levels.{initial_of, driven_level}
use Rattle.mp_model.specs.Waves.{level, state, slot_wave}
use Rattle.mp_model.proofs.BehaviourLemmas.{satisfies}
use Rattle.mp_active.specs.compare.Comparing.{changes_of_wave, wave_or_none}
use Rattle.mp_active.specs.compare.OldRuns.{RunsAreOld, RunsHaveWaves, RunsEnd}

-- a wire that doesn't stand has level 0
unset_level : (n : Circuit) → IsCircuit n → (w u : ℕ) → wire_at n w ≡ None → level n w u ≡ 0
unset_level n ok w u none =
    (satisfies n ok).levels w u ∙ ap (λ (d : Driver). driven_level d n (state n) w u) (leaves_no_driver n ok w none) ∙ ap initial_of none

slot_level : (n : Circuit) → IsCircuit n → (w u last : ℕ) (slot : Option WireRecord) → wire_at n w ≡ slot → u ≤ last → last < n.horizon →
    level n w u ≡ level_of (wave_or_none (slot_wave n w slot)) u
slot_level n ok w u last None at early low = unset_level n ok w u at
slot_level n ok w u last (Some r) at early low = sym (levels_of_wave (level n w) (n.horizon - 1) u (omega arith))

pub runs_are_old : RunsAreOld
runs_are_old n ok run is last low w u early =
    slot_level n ok w u last (wire_at n w) refl early low ∙ ap (λ (wave : Option Waveform). level_of (wave_or_none wave) u) (sym (is.waves w))

slot_form : (n : Circuit) (w : ℕ) (slot : Option WireRecord) → IsWaveform (wave_or_none (slot_wave n w slot))
slot_form n w None = tt
slot_form n w (Some r) = form_of_wave (level n w) (n.horizon - 1)

pub runs_have_waves : RunsHaveWaves
runs_have_waves n run is w = subst (λ (wave : Option Waveform). IsWaveform (wave_or_none wave)) (sym (is.waves w)) (slot_form n w (wire_at n w))

last_later : (time before : ℕ) (changes : List (ℕ × ℕ)) → AreChanges time before changes → time ≤ last_time time changes
last_later time before [] is = omega arith
last_later time before (change ∷ changes) is =
    let first = is.0 in
    let rest = last_later change.0 change.1 changes is.2 in
    omega arith

-- no change comes after the last one
upto_last : (time before : ℕ) (changes : List (ℕ × ℕ)) (k : ℕ) → AreChanges time before changes → k < length changes → (pair_at changes k).0 ≤ last_time time changes
upto_last time before [] k is low = absurd (omega arith)
upto_last time before (change ∷ changes) zero is low = last_later change.0 change.1 changes is.2
upto_last time before (change ∷ changes) (suc k) is low = upto_last change.0 change.1 changes k is.2 (omega arith)

slot_early : (n : Circuit) (w k : ℕ) (slot : Option WireRecord) → 1 ≤ n.horizon → k < length (changes_of_wave (slot_wave n w slot)) → (pair_at (changes_of_wave (slot_wave n w slot)) k).0 < n.horizon
slot_early n w k None some low = absurd (omega arith)
slot_early n w k (Some r) some low =
    let last = last_time-changes_after (level n w) 0 (n.horizon - 1) in
    let upto = upto_last 0 (level n w 0) (changes_after (level n w) 0 (n.horizon - 1)) k (form_of_wave (level n w) (n.horizon - 1)) low in
    omega arith

pub runs_end : RunsEnd
runs_end n ok run is w =
    subst (λ (wave : Option Waveform). (k : ℕ) → k < length (changes_of_wave wave) → (pair_at (changes_of_wave wave) k).0 < n.horizon) (sym (is.waves w))
    (λ k low. slot_early n w k (wire_at n w) ok.horizon_low low)
