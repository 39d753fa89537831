-- The levels of a wire of a run, and since when they repeat.
use Rattle.std.proofs.Common.{◌≡◌, ℕ, ◌+◌, ◌-◌, ◌<◌, ◌≤◌, ◌==◌, ◌⊎◌, inl, inr, Bool, true, false, cond, List, max, nat_le, zero, suc, ap, sym, subst, ◌∙◌, arith}
use Rattle.std.specs.List.{list_all}
use Rattle.std.proofs.lemmas.Bool.{cases_lt, false_from_ne_true, le-leb, lt-leb, true≢false}
use Rattle.mp_wave.specs.Waveform.{IsWaveform, Waveform, level_of}
use Rattle.mp_wave.proofs.ChangesLemmas.{form_of_wave, levels_of_wave}
use Rattle.mp_netlist.specs.Circuit.{Circuit}
use Rattle.mp_model.specs.Waves.{level, wave}
use Rattle.mp_steady.specs.Periods.{last_unit, repeats_from, start}
use Rattle.mp_steady.specs.WireSets.{has_wire}
use Rattle.mp_steady.proofs.SetLemmas.{of_wire}
use Rattle.mp_steady.proofs.ListLemmas.{greatest_within}

repeats_alike : (f g : ℕ → ℕ) (units upto : ℕ) → ((t : ℕ) → t ≤ upto + units → f t ≡ g t) → repeats_from f units upto ≡ repeats_from g units upto
repeats_alike f g units zero same =
    ap (λ x. cond (x == f (0 + units)) 0 1) (same 0 (omega arith)) ∙ ap (λ x. cond (g 0 == x) 0 1) (same (0 + units) (omega arith))
repeats_alike f g units (suc t) same =
    ap (λ x. cond (x == f (suc t + units)) (repeats_from f units t) (suc (suc t))) (same (suc t) (omega arith))
    ∙ ap (λ x. cond (g (suc t) == x) (repeats_from f units t) (suc (suc t))) (same (suc t + units) (omega arith))
    ∙ ap (λ x. cond (g (suc t) == g (suc t + units)) x (suc (suc t))) (repeats_alike f g units t (λ s low. same s (omega (arith, low))))

-- since when the wave of a wire repeats, its levels do
pub wave_repeats : (n : Circuit) (w units : ℕ) (v : Waveform) → v ≡ wave n w → units ≤ last_unit n → repeats_from (level_of v) units (last_unit n - units) ≡ repeats_from (level n w) units (last_unit n - units)
wave_repeats n w units v is few =
    ap (λ (x : Waveform). repeats_from (level_of x) units (last_unit n - units)) is
    ∙ repeats_alike (level_of (wave n w)) (level n w) units (last_unit n - units) (λ t low. levels_of_wave (level n w) (n.horizon - 1) t (omega (arith, low, few)))

pub wave_form : (n : Circuit) (w : ℕ) (v : Waveform) → v ≡ wave n w → IsWaveform v
wave_form n w v is = subst IsWaveform (sym is) (form_of_wave (level n w) (n.horizon - 1))

-- the later of two times is within the first if the second is
pub later_within : (a b : ℕ) → nat_le (max b a) b ≡ nat_le a b
later_within a b = by (cases_lt b a)
  where
    by : (b < a) ⊎ (a ≤ b) → nat_le (max b a) b ≡ nat_le a b
    by (inl less) = lt-leb (max b a) b (omega (arith, less)) ∙ sym (lt-leb a b less)
    by (inr most) = le-leb (max b a) b (omega (arith, most)) ∙ sym (le-leb a b most)

-- ---- whether all wires repeat soon enough

abbrev pub is_soon : Circuit → ℕ → ℕ → ℕ → Bool
is_soon n units most w = nat_le (repeats_from (level n w) units (last_unit n - units)) most

-- one wire refuses
pub start_late : (n : Circuit) (wires : List ℕ) (units most w : ℕ) → has_wire wires w ≡ true → is_soon n units most w ≡ false → nat_le (start n wires units) most ≡ false
start_late n wires units most w has late =
    false_from_ne_true (nat_le (start n wires units) most) (λ all.
    true≢false (sym (of_wire (is_soon n units most) wires w (sym (greatest_within (λ v. repeats_from (level n v) units (last_unit n - units)) wires most) ∙ all) has) ∙ late))

-- none refuses
pub start_soon : (n : Circuit) (wires : List ℕ) (units most : ℕ) → list_all (is_soon n units most) wires ≡ true → nat_le (start n wires units) most ≡ true
start_soon n wires units most all = greatest_within (λ v. repeats_from (level n v) units (last_unit n - units)) wires most ∙ all
