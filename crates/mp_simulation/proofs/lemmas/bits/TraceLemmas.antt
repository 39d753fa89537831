-- What is kept of the changes of a wire.
use Rattle.std.proofs.Common.{◌≡◌, ℕ, zero, suc, ◌+◌, ◌-◌, ◌<◌, ◌≤◌, Bool, true, false, not, cond, List, [], ◌∷◌, ◌++◌, map, refl, sym, ap, ◌∙◌, arith, subst}
use Rattle.std.specs.Prelude.{◌==◌}
use Rattle.std.proofs.lemmas.List.{append-nil, map-append}
use Rattle.mp_wave.specs.Waveform.{Waveform, last_from, last_time}
use Rattle.mp_wave.specs.ToggleWaves.{toggled_at, times_upto}
use Rattle.mp_simulation.specs.bits.ChangeLaws.{TracesGrow}
use Rattle.mp_simulation.specs.bits.Traces.{time_of, IsTrace}
use Rattle.mp_simulation.proofs.lemmas.bits.ChangeLemmas.{waves_grow}

grow : (level : ℕ → ℕ) (t : ℕ) (wave : Waveform) (same : Bool) → (level t == level (suc t)) ≡ same → map time_of wave.changes ≡ times_upto level t →
    map time_of (cond (not same) (toggled_at wave (suc t)) wave).changes ≡ times_upto level t ++ cond same [] (suc t ∷ [])
grow level t wave true is times = times ∙ sym (append-nil (times_upto level t))
grow level t wave false is times =
    map-append time_of wave.changes ((suc t, 1 - last_from wave.initial wave.changes) ∷ []) ∙ ap (λ (xs : List ℕ). xs ++ suc t ∷ []) times

pub traces_grow : TracesGrow
traces_grow level t wave trace =
    let e : suc t ≡ t + 1 = omega arith in
    record {
      times = subst (λ k. map time_of (cond (not (level t == level k)) (toggled_at wave k) wave).changes ≡ times_upto level k) e
          (grow level t wave (level t == level (suc t)) refl trace.times);
      whole = λ low. ap (λ (v : Waveform). cond (not (level t == level (t + 1))) (toggled_at v (t + 1)) v) (trace.whole low) ∙ sym (waves_grow level t low);
    }

abbrev last_of : ℕ → List ℕ → ℕ
last_of before [] = before
last_of before (time ∷ times) = last_of time times

last_is : (before : ℕ) (changes : List (ℕ × ℕ)) → last_time before changes ≡ last_of before (map time_of changes)
last_is before [] = refl
last_is before (change ∷ changes) = last_is change.0 changes

last_push : (before time : ℕ) (times : List ℕ) → last_of before (times ++ time ∷ []) ≡ time
last_push before time [] = refl
last_push before time (t ∷ times) = last_push t time times

last_when : (level : ℕ → ℕ) (t : ℕ) (same : Bool) → last_of 0 (times_upto level t) ≤ t → last_of 0 (times_upto level t ++ cond same [] (suc t ∷ [])) ≤ suc t
last_when level t true low = let is = ap (last_of 0) (append-nil (times_upto level t)) in omega arith
last_when level t false low = let is = last_push 0 (suc t) (times_upto level t) in omega arith

last_low : (level : ℕ → ℕ) (t : ℕ) → last_of 0 (times_upto level t) ≤ t
last_low level zero = omega arith
last_low level (suc t) = last_when level t (level t == level (suc t)) (last_low level t)

-- no change is later
pub trace_over : (level : ℕ → ℕ) (t : ℕ) (wave : Waveform) → IsTrace level t wave → last_time 0 wave.changes < t + 1
trace_over level t wave trace =
    let is = last_is 0 wave.changes in
    let same = ap (last_of 0) trace.times in
    let low = last_low level t in
    omega arith
