-- What the wheels have when a wire is turned on.
use Rattle.std.proofs.Common.{◌≡◌, ℕ, ◌+◌, ◌<◌, Bool, true, false, List, Option, Some, None, cond, length, nat_lt, refl, ap, sym, subst, ◌∙◌, arith}
use Rattle.std.specs.Prelude.{◌==◌, ◌&&◌}
use Rattle.std.proofs.lemmas.Bool.{eqb-true, and_right, both_ways}
use Rattle.mp_modules.specs.automata.Codes.{bit}
use Rattle.mp_kernel.specs.declared.events.output_port.OutputPort.{OutputPort}
use Rattle.mp_kernel.specs.events.Adding.{listed}
use Rattle.mp_simulation.specs.declared.bits.delayed_copies.DelayedCopies.{DelayedCopies}
use Rattle.mp_simulation.specs.bits.Changes.{late_change}
use Rattle.mp_simulation.specs.bits.Copies.{later_by}
use Rattle.mp_simulation.specs.bits.Simulations.{copy_slot}
use Rattle.mp_kernel.specs.declared.datapath.level_change.LevelChange.{LevelChange}
use Rattle.mp_simulation.specs.units.DataLevels.{is_data, changes_of}
use Rattle.mp_simulation.specs.units.DataWheels.{data_slot}
use Rattle.mp_active.specs.excerpt.Levels.{shown_ahead}
use Rattle.mp_active.specs.excerpt.Turning.{IsCopyTurned, IsChangeTurned}
use Rattle.mp_active.proofs.lemmas.excerpt.TestLemmas.{and_true}
use Rattle.mp_simulation.proofs.lemmas.run.StimulusLemmas.{plus_none}
use Rattle.mp_active.specs.steps.Chains.{next_in}
use Rattle.mp_active.proofs.lemmas.steps.ReachedLemmas.{is_among}
use Rattle.mp_active.proofs.lemmas.steps.TurnedLemmas.{late_bit}
use Rattle.mp_active.proofs.lemmas.steps.ChainedLemmas.{before_in}
use Rattle.mp_active.proofs.lemmas.steps.TurningOnLemmas.{Turning, none_late, copies_two, wheel_two, turned, other_wire, due_by}

module _ (given : Turning) where
  open given use {n, active, on, numbering, w, now, s, new, wide, shown, off, kind, last}

  abbrev source : ℕ → ℕ × ℕ
  source = numbering.source

  abbrev before : ℕ → Option ℕ
  before = before_in wide numbering

  abbrev next : List OutputPort
  next = next_in wide s

  abbrev count : ℕ
  count = length s.bits.simulator.fanout

  abbrev amount : ℕ → ℕ → ℕ
  amount x k = late_bit n now source before next x k

  copy_off : (x k : ℕ) → k < length s.bits.copies.wheel → (source x).0 ≡ w → listed x (copy_slot s.bits.copies k) ≡ 0
  copy_off x k within wire =
      shown.bits.copies x k within
      ∙ ap (λ b. bit ((b && late_change n (source x) (now + 1 + k)) && nat_lt k (later_by s.bits.copies.next.items (numbering.before x)))) (ap on wire ∙ off)

  event_new : (x k : ℕ) → k < length s.bits.copies.wheel →
      listed x (copy_slot new.bits.copies k) ≡ listed x (copy_slot s.bits.copies k) + cond wide 0 (cond (is_among x last.copies) (amount x k) 0)
  event_new x k within =
      let same = ap (λ (c : DelayedCopies). length c.wheel) (copies_two given) in
      subst (λ (c : DelayedCopies). listed x (copy_slot new.bits.copies k) ≡ listed x (copy_slot c k) + cond wide 0 (cond (is_among x last.copies) (amount x k) 0)) (copies_two given)
      ((turned given).events x k (omega (arith, within, same)))

  -- the copies of a wire of width 1 have no data
  narrow_by : (x k : ℕ) (v : Bool) → wide ≡ v → (source x).0 ≡ w →
      cond v 0 (amount x k) ≡ bit (late_change n (source x) (now + 1 + k) && nat_lt k (later_by s.bits.copies.next.items (numbering.before x)))
  narrow_by x k false is wire = ap (λ b. late_bit n now source (before_in b numbering) (next_in b s) x k) is
  narrow_by x k true is wire = sym (by (numbering.before x) refl)
    where
      by : (o : Option ℕ) → numbering.before x ≡ o → bit (late_change n (source x) (now + 1 + k) && nat_lt k (later_by s.bits.copies.next.items o)) ≡ 0
      by None none = none_late (late_change n (source x) (now + 1 + k)) k
      by (Some y) after = absurd (both_ways (is_data n w) (ap (is_data n) (sym wire) ∙ shown.numbers.bit_copies x y after) (kind ∙ is))

  pub copy_turned : (x k : ℕ) → k < length s.bits.copies.wheel → IsCopyTurned n numbering w now s new x k
  copy_turned x k within = event_new x k within ∙ by ((source x).0 == w) refl
    where
      nothing : (b : Bool) → cond b 0 (cond false (amount x k) 0) ≡ 0
      nothing true = refl
      nothing false = refl

      by : (b : Bool) → ((source x).0 == w) ≡ b → listed x (copy_slot s.bits.copies k) + cond wide 0 (cond (is_among x last.copies) (amount x k) 0)
          ≡ cond b (bit (late_change n (source x) (now + 1 + k) && nat_lt k (later_by s.bits.copies.next.items (numbering.before x)))) (listed x (copy_slot s.bits.copies k))
      by false other = let none = ap (λ a. cond wide 0 (cond a (amount x k) 0)) (other_wire given x other) ∙ nothing wide in omega (arith, none)
      by true here =
          let wire = eqb-true (source x).0 w here in
          plus_none (listed x (copy_slot s.bits.copies k)) (cond wide 0 (cond (is_among x last.copies) (amount x k) 0)) (copy_off x k within wire)
          ∙ ap (λ j. cond wide 0 j) (due_by given x k (is_among x last.copies) refl wire)
          ∙ narrow_by x k wide refl wire

  change_off : (x k : ℕ) → x < count → k < length s.wires.wheel → (source x).0 ≡ w → changes_of x (data_slot s.wires.wheel k) ≡ 0
  change_off x k low within wire =
      shown.wires.changes x k low within
      ∙ ap (λ b. bit (((b && late_change n (source x) (now + 1 + k)) && is_data n (source x).0) && nat_lt k (shown_ahead n active s.wires.next.items x (numbering.data_before x)))) (ap on wire ∙ off)

  change_new : (x k : ℕ) → k < length s.wires.wheel →
      changes_of x (data_slot new.wires.wheel k) ≡ changes_of x (data_slot s.wires.wheel k) + cond wide (cond (is_among x last.copies) (amount x k) 0) 0
  change_new x k within =
      let same = ap (length {A = List LevelChange}) (wheel_two given) in
      subst (λ (wheel : List (List LevelChange)). changes_of x (data_slot new.wires.wheel k) ≡ changes_of x (data_slot wheel k) + cond wide (cond (is_among x last.copies) (amount x k) 0) 0) (wheel_two given)
      ((turned given).changes x k (omega (arith, within, same)))

  wide_by : (x k : ℕ) (v : Bool) → wide ≡ v → (source x).0 ≡ w →
      cond v (amount x k) 0 ≡ bit ((late_change n (source x) (now + 1 + k) && is_data n (source x).0) && nat_lt k (later_by s.wires.next.items (numbering.data_before x)))
  wide_by x k true is wire =
      ap (λ b. late_bit n now source (before_in b numbering) (next_in b s) x k) is
      ∙ ap (λ b. bit (b && nat_lt k (later_by s.wires.next.items (numbering.data_before x)))) (sym (and_true (late_change n (source x) (now + 1 + k))))
      ∙ ap (λ b. bit ((late_change n (source x) (now + 1 + k) && b) && nat_lt k (later_by s.wires.next.items (numbering.data_before x)))) (sym (ap (is_data n) wire ∙ kind ∙ is))
  wide_by x k false is wire =
      sym (ap (λ b. bit ((late_change n (source x) (now + 1 + k) && b) && nat_lt k (later_by s.wires.next.items (numbering.data_before x)))) (ap (is_data n) wire ∙ kind ∙ is)
      ∙ ap (λ b. bit (b && nat_lt k (later_by s.wires.next.items (numbering.data_before x)))) (and_right (late_change n (source x) (now + 1 + k)) false refl))

  pub change_turned : (x k : ℕ) → x < count → k < length s.wires.wheel → IsChangeTurned n numbering w now s.wires new.wires x k
  change_turned x k low within = change_new x k within ∙ by ((source x).0 == w) refl
    where
      nothing : (b : Bool) → cond b (cond false (amount x k) 0) 0 ≡ 0
      nothing true = refl
      nothing false = refl

      by : (b : Bool) → ((source x).0 == w) ≡ b → changes_of x (data_slot s.wires.wheel k) + cond wide (cond (is_among x last.copies) (amount x k) 0) 0
          ≡ cond b (bit ((late_change n (source x) (now + 1 + k) && is_data n (source x).0) && nat_lt k (later_by s.wires.next.items (numbering.data_before x)))) (changes_of x (data_slot s.wires.wheel k))
      by false other = let none = ap (λ a. cond wide (cond a (amount x k) 0) 0) (other_wire given x other) ∙ nothing wide in omega (arith, none)
      by true here =
          let wire = eqb-true (source x).0 w here in
          plus_none (changes_of x (data_slot s.wires.wheel k)) (cond wide (cond (is_among x last.copies) (amount x k) 0) 0) (change_off x k low within wire)
          ∙ ap (λ j. cond wide j 0) (due_by given x k (is_among x last.copies) refl wire)
          ∙ wide_by x k wide refl wire
