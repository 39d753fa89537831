-- The waves of wires that stand.
use Rattle.mp_report.proofs.Names.{◌≡◌, ◌-◌, ◌<◌, form_of_wave, ℕ, List, Option, Some, IsSome, ap, ◌∙◌, arith, Waveform, IsWaveform, level_of, between, levels_of_wave, Input, Circuit, IsCircuit, wire_at, input_by, level, wave, AreWavesOf, later_by, put_off, piece_level, InPiece}
use Rattle.mp_wave.proofs.PrefixLemmas.{cut_levels}
use Rattle.mp_netlist.specs.Slots.{slot_at}
use Rattle.mp_model.proofs.InputLemmas.{input_is}
use Rattle.mp_model.proofs.lemmas.response.LateLemmas.{late_level_of, IsWaveform-later_by}

-- the wave that is kept of a wire that stands
pub wave_is : (n : Circuit) (w : ℕ) (found : List (Option Waveform)) (v : Waveform) → AreWavesOf n found → Some v ≡ slot_at found w → v ≡ wave n w
wave_is n w found v are is = grind arith

-- a wave that is cut over all times below an end
pub cut_whole : (wave : Waveform) (piece : InPiece) (end delay t : ℕ) → IsWaveform wave → delay ≡ 0 → piece ≡ record { at_from = level_of wave 0; changes = between 0 end wave.changes } → t < end
    → piece_level piece t ≡ level_of wave (t - delay)
cut_whole wave piece end delay t form none is within = grind (arith, cut_levels)

pub cut_late : (wave : Waveform) (piece : InPiece) (end delay t : ℕ) → IsWaveform wave → piece ≡ record { at_from = level_of (later_by delay wave) 0; changes = between 0 end (put_off delay wave.changes) } → t < end
    → piece_level piece t ≡ level_of wave (t - delay)
cut_late wave piece end delay t form is within =
    ap (λ (p : InPiece). piece_level p t) is ∙ cut_levels (later_by delay wave) 0 end t (IsWaveform-later_by delay wave form) (omega arith) within ∙ late_level_of delay t wave form

-- what an input hears of its wire
pub hears : (n : Circuit) → IsCircuit n → (i : Input) (v : Waveform) (t : ℕ) → IsSome (wire_at n i.wire.0) → v ≡ wave n i.wire.0 → t < n.horizon → level_of v (t - i.delay) ≡ input_by n (level n) i t
hears n ok i v t stands is within = grind (arith, levels_of_wave, input_is)

pub ruleset modules_piece_steps = (wave_is, form_of_wave, hears)
