-- The level of a source, from one unit to the next.
use Rattle.std.proofs.Common.{◌≡◌, ◌≢◌, ℕ, ◌+◌, ◌-◌, ◌^◌, ◌<◌, ◌≤◌, Bool, true, false, not, cond, nat_lt, Option, Some, None, refl, sym, ap, ◌∙◌, arith, subst}
use Rattle.std.specs.Prelude.{◌==◌}
use Rattle.std.proofs.lemmas.Bool.{eqb-true, eqb-false}
use Rattle.std.proofs.lemmas.Bool.Decides.{nat_tests}
use Rattle.mp_records.specs.declared.ports.Input.{Input}
use Rattle.mp_records.specs.declared.wire_record.WireRecord.{WireRecord}
use Rattle.mp_netlist.specs.Circuit.{Circuit, IsCircuit, wire_at, width_of}
use Rattle.mp_model.specs.Levels.{initial_of}
use Rattle.mp_model.specs.Waves.{level}
use Rattle.mp_model.proofs.InputLemmas.{input_is}
use Rattle.mp_model.proofs.LevelFitLemmas.{level_fits}
use Rattle.mp_simulation.specs.bits.Changes.{late_change}
use Rattle.mp_simulation.proofs.lemmas.bits.ChangeLemmas.{inputs_change}
use Rattle.mp_simulation.specs.units.DataLevels.{has_data, is_data, late_level}

not_none : (b : Bool) → not b ≡ false → b ≡ true
not_none true is = refl
not_none false is = sym is

not_some : (b : Bool) → not b ≡ true → b ≡ false
not_some true is = sym is
not_some false is = refl

abbrev input_of : ℕ × ℕ → Input
input_of s = record { wire = record { 0 = s.0 }; delay = s.1 }

pub late_changes : (n : Circuit) → IsCircuit n → (s : ℕ × ℕ) (t : ℕ) → not (late_level n s t == late_level n s (t + 1)) ≡ late_change n s (t + 1)
late_changes n ok s t = inputs_change n ok (input_of s) t

-- where it doesn't change it stays
pub late_stays : (n : Circuit) → IsCircuit n → (s : ℕ × ℕ) (t : ℕ) → late_change n s (t + 1) ≡ false → late_level n s t ≡ late_level n s (t + 1)
late_stays n ok s t none =
    eqb-true (late_level n s t) (late_level n s (t + 1)) (not_none (late_level n s t == late_level n s (t + 1)) (late_changes n ok s t ∙ none))

low_width : (slot : Option WireRecord) (v : ℕ) → has_data slot ≡ false → v < 2 ^ width_of slot → v ≤ 1
low_width None v none fits = omega arith
low_width (Some r) v none fits =
    let one : r.width ≡ 1 = eqb-true r.width 1 (not_none (r.width == 1) none) in
    let low : v < 2 ^ 1 = subst (λ k. v < 2 ^ k) one fits in
    omega arith

-- a source of width 1 has a level of one bit
pub late_bit : (n : Circuit) → IsCircuit n → (s : ℕ × ℕ) (u : ℕ) → is_data n s.0 ≡ false → late_level n s u ≤ 1
late_bit n ok s u none =
    let is : late_level n s u ≡ level n s.0 (u - s.1) = input_is n ok (input_of s) u in
    let low = low_width (wire_at n s.0) (level n s.0 (u - s.1)) none (level_fits n ok s.0 (u - s.1)) in
    omega arith

flipped : (a b : ℕ) → a ≢ b → a ≤ 1 → b ≤ 1 → 1 - a ≡ b
flipped a b other low too = omega arith

-- and where it changes it is the other one
pub late_flips : (n : Circuit) → IsCircuit n → (s : ℕ × ℕ) (t : ℕ) → is_data n s.0 ≡ false → late_change n s (t + 1) ≡ true → 1 - late_level n s t ≡ late_level n s (t + 1)
late_flips n ok s t none change =
    flipped (late_level n s t) (late_level n s (t + 1))
    (eqb-false (late_level n s t) (late_level n s (t + 1)) (not_some (late_level n s t == late_level n s (t + 1)) (late_changes n ok s t ∙ change)))
    (late_bit n ok s t none) (late_bit n ok s (t + 1) none)

-- a wire is its own source without a delay
pub own_level : (n : Circuit) (w u : ℕ) → late_level n (w, 0) u ≡ level n w u
own_level n w u =
    let test : nat_lt u 0 ≡ false = grind (arith, nat_tests) in
    let time : u - 0 ≡ u = omega arith in
    ap (λ b. cond b (initial_of (wire_at n w)) (level n w (u - 0))) test ∙ ap (level n w) time
