-- The level of what is so much later than a wire.
use Rattle.std.proofs.Common.{◌≡◌, ℕ, ◌+◌, ◌-◌, ◌≤◌, false, not, sym, ap, ◌∙◌, subst}
use Rattle.std.specs.Prelude.{◌==◌}
use Rattle.mp_netlist.specs.Circuit.{Circuit, IsCircuit}
use Rattle.mp_model.specs.Waves.{level}
use Rattle.mp_model.proofs.InputLemmas.{input_is}
use Rattle.mp_simulation.specs.bits.Changes.{late_change}
use Rattle.mp_simulation.specs.units.DataLevels.{is_data, late_level}
use Rattle.mp_simulation.proofs.lemmas.units.LateLemmas.{late_bit, late_changes}

-- before time 0 it is that of time 0
pub late_is : (n : Circuit) → IsCircuit n → (s : ℕ × ℕ) (u : ℕ) → late_level n s u ≡ level n s.0 (u - s.1)
late_is n ok s u = input_is n ok (record { wire = record { 0 = s.0 }; delay = s.1 }) u

-- it is another one where the wire has changed
pub late_differs : (n : Circuit) → IsCircuit n → (s : ℕ × ℕ) (t : ℕ) → not (level n s.0 (t - s.1) == level n s.0 (t + 1 - s.1)) ≡ late_change n s (t + 1)
late_differs n ok s t =
    ap (λ v. not (v == level n s.0 (t + 1 - s.1))) (sym (late_is n ok s t)) ∙ ap (λ v. not (late_level n s t == v)) (sym (late_is n ok s (t + 1))) ∙ late_changes n ok s t

-- of a wire of width 1 it is one bit
pub late_low : (n : Circuit) → IsCircuit n → (s : ℕ × ℕ) (u : ℕ) → is_data n s.0 ≡ false → level n s.0 (u - s.1) ≤ 1
late_low n ok s u narrow = subst (λ v. v ≤ 1) (late_is n ok s u) (late_bit n ok s u narrow)
