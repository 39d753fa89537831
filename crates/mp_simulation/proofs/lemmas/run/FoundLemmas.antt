-- The waves of a simulation of a netlist of any widths, at its end.
use Rattle.std.proofs.Common.{◌≡◌, ℕ, ◌+◌, ◌-◌, ◌<◌, ◌≤◌, Bool, true, false, not, cond, List, [], ◌∷◌, ◌++◌, Option, Some, None, IsSome, option_to_list, drop, length, nat_lt, refl, sym, ap, ◌∙◌, arith, subst}
use Rattle.std.specs.Prelude.{◌&&◌, ◌==◌, slice_index_or}
use Rattle.std.proofs.lemmas.Bool.Decides.{nat_tests}
use Rattle.std.proofs.lemmas.List.{drop_more}
use Rattle.mp_wave.specs.Waveform.{Waveform, wave_upto}
use Rattle.mp_wave.specs.Building.{Building}
use Rattle.mp_records.specs.declared.wire_record.WireRecord.{WireRecord}
use Rattle.mp_netlist.specs.Circuit.{Circuit, IsCircuit, wire_at}
use Rattle.mp_model.specs.Waves.{level, slot_wave}
use Rattle.mp_kernel.specs.events.Toggling.{wave_at}
use Rattle.mp_simulation.specs.declared.units.netlist_simulation.NetlistSimulation.{NetlistSimulation}
use Rattle.mp_simulation.specs.units.DataLevels.{has_data, is_data, is_bit_wire}
use Rattle.mp_simulation.specs.units.DataWaves.{building_at}
use Rattle.mp_simulation.specs.units.NetlistSimulations.{IsSimulated}
use Rattle.mp_simulation.proofs.lemmas.units.LateLemmas.{late_bit, own_level}
use Rattle.mp_simulation.specs.run.Runs.{wave_for}

abbrev rest_of : {A : Type 0} → List A → List A
rest_of [] = []
rest_of (y ∷ ys) = ys

-- the next item of a list that is gone through
pub next_item : {A : Type 0} (item : Option A) (rest all : List A) (w : ℕ) (e : A) → IsSome item → w < length all → drop w all ≡ option_to_list item ++ rest →
    (item ≡ Some (slice_index_or all w e)) × (rest ≡ drop (w + 1) all)
next_item None rest all w e some within taken = cc
next_item (Some v) rest all w e some within taken =
    let is = sym (drop_more all w e within) ∙ taken in
    (ap (λ l. Some (slice_index_or l 0 e)) (sym is), sym (ap rest_of is))

pub one_item : {A : Type 0} (item : Option A) → IsSome item → length (option_to_list item) ≡ 1
one_item None some = cc
one_item (Some v) some = refl

-- a wire of width 1 has a level of one bit
bit_level : (n : Circuit) → IsCircuit n → (w : ℕ) → is_data n w ≡ false → (u : ℕ) → level n w u ≤ 1
bit_level n ok w none u = subst (λ k. k ≤ 1) (own_level n w u) (late_bit n ok (w, 0) u none)

module _ (n : Circuit) (ok : IsCircuit n) (s : NetlistSimulation) (is : IsSimulated n (n.horizon - 1) s) where
  by_slot : (w : ℕ) → w < length n.wires → (slot : Option WireRecord) → wire_at n w ≡ slot →
      wave_for slot (Some (wave_at s.bits.simulator.waves w)) (Some (building_at s.wires.waves.items w)) ≡ slot_wave n w slot
  by_slot w low None at = refl
  by_slot w low (Some r) at = by_width (r.width == 1) refl
    where
      by_width : (b : Bool) → (r.width == 1) ≡ b →
          cond b (Some (wave_at s.bits.simulator.waves w)) (Some (building_at s.wires.waves.items w).wave) ≡ Some (wave_upto (level n w) (n.horizon - 1))
      by_width true one =
          let long = is.waves in
          let within : w < length s.bits.simulator.waves = omega arith in
          let test : nat_lt w (length n.wires) ≡ true = grind (arith, nat_tests) in
          let none : is_data n w ≡ false = ap has_data at ∙ ap not one in
          let traced : is_bit_wire n w ≡ true = ap (λ b. b && not (is_data n w)) test ∙ ap not none in
          ap (λ (v : Waveform). Some v) ((is.running.simulator.stands.waves w within (is.traces w ∙ traced)).whole (bit_level n ok w none))
      by_width false other =
          let has : is_data n w ≡ true = ap has_data at ∙ ap not other in
          ap (λ (v : Waveform). Some v) (is.wires.waves w has)

  pub one_wave : (w : ℕ) (toggles : Option Waveform) (built : Option Building) → w < length n.wires → toggles ≡ Some (wave_at s.bits.simulator.waves w) →
      built ≡ Some (building_at s.wires.waves.items w) → wave_for (wire_at n w) toggles built ≡ slot_wave n w (wire_at n w)
  one_wave w toggles built low toggles_are built_is =
      ap (λ (t : Option Waveform). wave_for (wire_at n w) t built) toggles_are
      ∙ ap (λ (b : Option Building). wave_for (wire_at n w) (Some (wave_at s.bits.simulator.waves w)) b) built_is
      ∙ by_slot w low (wire_at n w) refl
