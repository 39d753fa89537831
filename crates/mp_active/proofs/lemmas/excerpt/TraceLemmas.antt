-- What is kept of a wire's changes up to a time rests on the levels up to it.
use Rattle.std.proofs.Common.{◌≡◌, ℕ, ◌+◌, ◌≤◌, ◌++◌, zero, suc, refl, ap, sym, subst, ◌∙◌, arith}
use Rattle.mp_wave.specs.Waveform.{Waveform}
use Rattle.mp_wave.specs.ToggleWaves.{time_after, times_upto}
use Rattle.mp_partition.proofs.lemmas.regions.PartLemmas.{same_wave}
use Rattle.mp_simulation.specs.bits.Traces.{IsTrace}

same_times : (f g : ℕ → ℕ) (t last : ℕ) → t ≤ last → ((u : ℕ) → u ≤ last → f u ≡ g u) → times_upto f t ≡ times_upto g t
same_times f g zero last low same = refl
same_times f g (suc t) last low same =
    ap (λ xs. xs ++ time_after f t) (same_times f g t last (omega (arith, low)) same) ∙ ap (λ xs. times_upto g t ++ xs) (same_time t low)
  where
    same_time : (u : ℕ) → suc u ≤ last → time_after f u ≡ time_after g u
    same_time u low = let now = same u (omega (arith, low)) in let next = same (suc u) low in rw (now, next) refl

pub same_trace : (f g : ℕ → ℕ) (t : ℕ) (wave : Waveform) → ((u : ℕ) → u ≤ t → f u ≡ g u) → ((u : ℕ) → f u ≤ 1) → IsTrace f t wave → IsTrace g t wave
same_trace f g t wave same bits is = record {
  times = is.times ∙ same_times f g t t (omega arith) same;
  whole = λ others. is.whole bits ∙ same_wave f g t same;
}

-- the same of levels that are the same at all times
pub trace_as : (f g : ℕ → ℕ) (t : ℕ) (wave : Waveform) → ((u : ℕ) → f u ≡ g u) → IsTrace f t wave → IsTrace g t wave
trace_as f g t wave same is = record {
  times = is.times ∙ same_times f g t t (omega arith) (λ u before. same u);
  whole = λ bits. is.whole (λ u. subst (λ v. v ≤ 1) (sym (same u)) (bits u)) ∙ same_wave f g t (λ u before. same u);
}
