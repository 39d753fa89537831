-- What the inputs of a module hear.
use Rattle.std.proofs.Common.{◌≡◌, ℕ, ◌-◌, ◌<◌, List, [], ◌∷◌, map, length, get_or, slice_index, zero, suc, refl, sym, ap, subst, ◌∙◌, arith}
use Rattle.mp_wave.specs.Waveform.{Waveform, IsWaveform, level_of}
use Rattle.mp_wave.proofs.ChangesLemmas.{form_of_wave, levels_of_wave}
use Rattle.mp_records.specs.declared.module_record.ModuleRecord.{ModuleRecord}
use Rattle.mp_records.specs.declared.ports.Input.{Input}
use Rattle.mp_netlist.specs.Circuit.{Circuit, IsCircuit}
use Rattle.mp_model.specs.Levels.{input_by, inputs_by}
use Rattle.mp_model.specs.Waves.{level, wave}
use Rattle.mp_model.proofs.InputLemmas.{input_is}
use Rattle.mp_questions.specs.timing.Hearing.{Hears}
use Rattle.mp_questions.specs.declared.timing.delayed_input.DelayedInput.{DelayedInput}

pub map_at : (g : Input → ℕ) (xs : List Input) (p : ℕ) (d : Input) → p < length xs → slice_index (map g xs) p ≡ g (get_or xs p d)
map_at g [] p d within = absurd (omega (arith, within))
map_at g (x ∷ xs) zero d within = refl
map_at g (x ∷ xs) (suc p) d within = map_at g xs p d (omega (arith, within))

-- a port hears its wire
pub hears_input : (n : Circuit) → IsCircuit n → (r : ModuleRecord) (p : ℕ) (i : Input) (h : DelayedInput) → p < length r.inputs → i ≡ get_or r.inputs p i → h.wave.now ≡ wave n i.wire.0 → h.delay ≡ i.delay
    → Hears (λ t. slice_index (inputs_by n (level n) r t) p) n.horizon h
hears_input n ok r p i h within at is late = record {
  form = subst IsWaveform (sym is) (form_of_wave (level n i.wire.0) (n.horizon - 1));
  levels = λ t below.
      ap (λ (w : Waveform). level_of w (t - h.delay)) is ∙ levels_of_wave (level n i.wire.0) (n.horizon - 1) (t - h.delay) (omega (arith, below)) ∙ ap (λ d. level n i.wire.0 (t - d)) late
      ∙ sym (input_is n ok i t) ∙ ap (λ (j : Input). input_by n (level n) j t) at ∙ sym (map_at (λ (j : Input). input_by n (level n) j t) r.inputs p i within);
}

-- a wire is heard without a delay
pub hears_wire : (n : Circuit) (w : ℕ) (h : DelayedInput) → h.wave.now ≡ wave n w → h.delay ≡ 0 → Hears (level n w) n.horizon h
hears_wire n w h is prompt = record {
  form = subst IsWaveform (sym is) (form_of_wave (level n w) (n.horizon - 1));
  levels = λ t below.
      let same : t - h.delay ≡ t = omega (arith, prompt) in
      ap (λ (v : Waveform). level_of v (t - h.delay)) is ∙ levels_of_wave (level n w) (n.horizon - 1) (t - h.delay) (omega (arith, below)) ∙ ap (level n w) same;
}

-- an input hears its wire
pub hears_at : (n : Circuit) → IsCircuit n → (i : Input) (h : DelayedInput) → h.wave.now ≡ wave n i.wire.0 → h.delay ≡ i.delay → Hears (input_by n (level n) i) n.horizon h
hears_at n ok i h is late = record {
  form = subst IsWaveform (sym is) (form_of_wave (level n i.wire.0) (n.horizon - 1));
  levels = λ t below.
      ap (λ (w : Waveform). level_of w (t - h.delay)) is ∙ levels_of_wave (level n i.wire.0) (n.horizon - 1) (t - h.delay) (omega (arith, below)) ∙ ap (λ d. level n i.wire.0 (t - d)) late
      ∙ sym (input_is n ok i t);
}
