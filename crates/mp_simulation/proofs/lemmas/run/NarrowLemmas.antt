-- Levels and widths where each wire has width 1.
use Rattle.std.proofs.Common.{◌≡◌, ℕ, ◌^◌, ◌<◌, ◌≤◌, Bool, true, false, not, nat_lt, Option, Some, None, length, refl, ap, ◌∙◌, arith, subst}
use Rattle.std.specs.Prelude.{◌&&◌}
use Rattle.std.proofs.lemmas.Bool.{eq-eqb}
use Rattle.mp_records.specs.declared.wire_record.WireRecord.{WireRecord}
use Rattle.mp_netlist.specs.Circuit.{Circuit, IsCircuit, wire_at, width_of}
use Rattle.mp_model.specs.Waves.{level}
use Rattle.mp_model.proofs.LevelFitLemmas.{level_fits}
use Rattle.mp_simulation.specs.units.DataLevels.{has_data, is_bit_wire}
use Rattle.mp_simulation.specs.run.Narrow.{IsNarrow}

low_by : (n : Circuit) → IsNarrow n → (w v : ℕ) (slot : Option WireRecord) → wire_at n w ≡ slot → v < 2 ^ width_of slot → v ≤ 1
low_by n narrow w v None at low = let e : v < 1 = low in omega arith
low_by n narrow w v (Some r) at low = let e : v < 2 = subst (λ k. v < 2 ^ k) (narrow.wires w r at) low in omega arith

-- a level is a bit
pub bit_level : (n : Circuit) → IsCircuit n → IsNarrow n → (w t : ℕ) → level n w t ≤ 1
bit_level n ok narrow w t = low_by n narrow w (level n w t) (wire_at n w) refl (level_fits n ok w t)

no_data : (n : Circuit) → IsNarrow n → (w : ℕ) (slot : Option WireRecord) → wire_at n w ≡ slot → has_data slot ≡ false
no_data n narrow w None at = refl
no_data n narrow w (Some r) at = ap not (eq-eqb r.width 1 (narrow.wires w r at))

and_true : (b : Bool) → (b && true) ≡ b
and_true true = refl
and_true false = refl

-- all wires have width 1
pub all_bits : (n : Circuit) → IsNarrow n → (w : ℕ) → is_bit_wire n w ≡ nat_lt w (length n.wires)
all_bits n narrow w = ap (λ b. nat_lt w (length n.wires) && not b) (no_data n narrow w (wire_at n w) refl) ∙ and_true (nat_lt w (length n.wires))
