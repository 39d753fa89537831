-- What toggles in the next unit of the new run has width 1 in both.
use Rattle.std.proofs.Common.{◌≡◌, ℕ, ◌+◌, ◌-◌, ◌<◌, ◌≤◌, Bool, true, false, not, cond, nat_lt, List, Option, Some, None, length, refl, sym, ap, subst, ◌∙◌, arith, inl, inr}
use Rattle.std.specs.Prelude.{◌&&◌, ◌==◌}
use Rattle.std.proofs.lemmas.Bool.{cases_lt, and_parts, ltb-true}
use Rattle.mp_records.specs.declared.wire_record.WireRecord.{WireRecord}
use Rattle.mp_netlist.specs.Circuit.{Circuit, IsCircuit, wire_at}
use Rattle.mp_netlist.specs.Drivers.{driver}
use Rattle.mp_model.specs.Waves.{level}
use Rattle.mp_kernel.specs.events.Adding.{listed}
use Rattle.mp_simulation.specs.bits.Changes.{change_at, late_change}
use Rattle.mp_simulation.specs.bits.Simulators.{slot_at}
use Rattle.mp_simulation.specs.bits.Simulations.{copy_slot}
use Rattle.mp_simulation.specs.bits.Copies.{later_by}
use Rattle.mp_simulation.specs.declared.units.netlist_simulation.NetlistSimulation.{NetlistSimulation}
use Rattle.mp_simulation.specs.units.DataLevels.{has_data, is_data, is_bit_wire}
use Rattle.mp_simulation.specs.declared.run.stimuli.StimulusChange.{StimulusChange}
use Rattle.mp_simulation.specs.run.Stimuli.{bits_at}
use Rattle.mp_depend.specs.work.Revisions.{IsRevision}
use Rattle.mp_active.specs.excerpt.Levels.{shown_change, shown_delay}
use Rattle.mp_active.specs.excerpt.Numberings.{Numbering}
use Rattle.mp_active.specs.excerpt.Showing.{Shows}
use Rattle.mp_active.proofs.lemmas.excerpt.TestLemmas.{bit_true}
use Rattle.mp_active.specs.declared.compare.comparison.Comparison.{Comparison}
use Rattle.mp_active.specs.declared.compare.new_changes.NewChanges.{NewChanges}
use Rattle.mp_active.specs.compare.Comparing.{wire_of, delay_of, bits_of, HaveLowBits}
use Rattle.mp_redo.specs.rerun.Following.{AreToCome}
use Rattle.mp_redo.proofs.lemmas.rerun.LateLemmas.{late_low}
use Rattle.mp_redo.proofs.lemmas.rerun.NumberLemmas.{Stands, changes_stand, bit_wire_narrow, bit_wire_source}
use Rattle.mp_redo.proofs.lemmas.rerun.ToComeLemmas.{bits_to_come}
use Rattle.mp_redo.proofs.lemmas.rerun.ComingLemmas.{wires_ahead, copies_ahead}
use Rattle.mp_redo.proofs.lemmas.rerun.DepartingLemmas.{AreComing, narrow_change, late_told, bits_sum, low_wire, low_in_copies}
use Rattle.mp_active.proofs.lemmas.excerpt.KeptLemmas.{bit_is}

module _ (n : Circuit) (ok : IsCircuit n) (active on : ℕ → Bool) (numbering : Numbering) (t : ℕ) (s : NetlistSimulation) (shows : Shows n active on numbering t s)
    (c : Comparison) (count : length c.numbers.wires.items ≡ length s.bits.simulator.fanout)
    (told : (x : ℕ) → x < length c.numbers.wires.items → numbering.source x ≡ (wire_of c.numbers x, delay_of c.numbers x))
    (anew tail : ℕ → ℕ → Bool) (stimuli left : List StimulusChange) (first : AreToCome n anew t stimuli) (second : AreToCome n tail t left)
    (coming : NewChanges) (are : AreComing (t + 1) stimuli left s coming) where
  -- a number of width 1, whose wire stands
  abbrev IsNarrow : ℕ → Type 0
  IsNarrow x = (x < length c.numbers.wires.items) × (is_data n (numbering.source x).0 ≡ false) × Stands n (numbering.source x).0

  own_narrow : (x : ℕ) → is_data n x ≡ false → change_at n x (t + 1) ≡ true → IsNarrow x
  own_narrow x narrow changes =
      let stands = changes_stand n ok x (t + 1) changes in
      let is = bit_is n x stands.low narrow in
      let own : (numbering.source x).0 ≡ x = ap (λ (r : ℕ × ℕ). r.0) (shows.numbers.wires x is) in
      (low_wire n ok active on numbering t s shows c count x changes, bit_wire_source n numbering s shows.numbers x is, subst (Stands n) (sym own) stands)

  narrow_in_wires : (x : ℕ) → 0 < listed x (slot_at s.bits.simulator 0) → IsNarrow x
  narrow_in_wires x some =
      let all = bit_true ((change_at n x (t + 1) && is_bit_wire n x) && nat_lt 0 (shown_delay n active (driver n x)))
      (subst (λ k. 0 < k) (wires_ahead n ok active on numbering t s shows x) some) in
      let both = and_parts (change_at n x (t + 1)) (is_bit_wire n x) (and_parts (change_at n x (t + 1) && is_bit_wire n x) (nat_lt 0 (shown_delay n active (driver n x))) all).0 in
      own_narrow x (bit_wire_narrow n x both.1) both.0

  late_stands : (r : ℕ × ℕ) → late_change n r (t + 1) ≡ true → Stands n r.0
  late_stands r changes = by (nat_lt r.1 (t + 1)) changes
    where
      by : (b : Bool) → cond b (change_at n r.0 (t + 1 - r.1)) false ≡ true → Stands n r.0
      by true e = changes_stand n ok r.0 (t + 1 - r.1) e
      by false e = let no : ⊥ = cc in absurd no

  narrow_in_copies : (x : ℕ) → 0 < listed x (copy_slot s.bits.copies 0) → IsNarrow x
  narrow_in_copies x some = by (numbering.before x) refl
    where
      all : (shown_change n on (numbering.source x) (t + 1) && nat_lt 0 (later_by s.bits.copies.next.items (numbering.before x))) ≡ true
      all = bit_true (shown_change n on (numbering.source x) (t + 1) && nat_lt 0 (later_by s.bits.copies.next.items (numbering.before x)))
          (subst (λ k. 0 < k) (copies_ahead n ok active on numbering t s shows x) some)

      by : (o : Option ℕ) → numbering.before x ≡ o → IsNarrow x
      by None at =
          let ahead : nat_lt 0 (later_by s.bits.copies.next.items (numbering.before x)) ≡ true =
          (and_parts (shown_change n on (numbering.source x) (t + 1)) (nat_lt 0 (later_by s.bits.copies.next.items (numbering.before x))) all).1 in
          let none : nat_lt 0 0 ≡ true = sym (ap (λ (o : Option ℕ). nat_lt 0 (later_by s.bits.copies.next.items o)) at) ∙ ahead in
          let low = ltb-true 0 0 none in let no : ⊥ = omega (arith, low) in absurd no
      by (Some y) at =
          let change = (and_parts (shown_change n on (numbering.source x) (t + 1)) (nat_lt 0 (later_by s.bits.copies.next.items (numbering.before x))) all).0 in (
            low_in_copies n ok active on numbering t s shows c count x some,
            shows.numbers.bit_copies x y at,
            late_stands (numbering.source x) (and_parts (on (numbering.source x).0) (late_change n (numbering.source x) (t + 1)) change).1,
          )

  narrow_in_bits : (comes : ℕ → ℕ → Bool) (ss : List StimulusChange) → AreToCome n comes t ss → (x : ℕ) → 0 < listed x (bits_at (t + 1) ss) → IsNarrow x
  narrow_in_bits comes ss to x some =
      let both = narrow_change (is_data n x) (change_at n x (t + 1)) (comes x (t + 1)) (subst (λ k. 0 < k) (bits_to_come n comes t ss to x) some) in
      own_narrow x both.0 both.1

  narrow_there : (x : ℕ) → 0 < listed x (bits_of coming) → IsNarrow x
  narrow_there x some = elim (cases_lt 0 (listed x (slot_at s.bits.simulator 0))) as (λ _. IsNarrow x) [
    | inl a ↦ narrow_in_wires x a
    | inr a ↦ elim (cases_lt 0 (listed x (copy_slot s.bits.copies 0))) as (λ _. IsNarrow x) [
      | inl b ↦ narrow_in_copies x b
      | inr b ↦ elim (cases_lt 0 (listed x (bits_at (t + 1) stimuli))) as (λ _. IsNarrow x) [
        | inl d ↦ narrow_in_bits anew stimuli first x d
        | inr d ↦ let sum = bits_sum n ok active on numbering t s shows c count told anew tail stimuli left first second coming are x in narrow_in_bits tail left second x (omega (arith, some, sum, a, b, d))
      ]
    ]
  ]

  module _ (old : Circuit) (old_ok : IsCircuit old) (revised : IsRevision old n) where
    narrow_before : (w : ℕ) → Stands n w → is_data n w ≡ false → is_data old w ≡ false
    narrow_before w stands narrow = by (wire_at old w) refl
      where
        by : (slot : Option WireRecord) → wire_at old w ≡ slot → is_data old w ≡ false
        by None at = ap has_data at
        by (Some r) at =
            ap has_data at ∙ ap (λ k. not (k == 1)) (revised.widths w r stands.wire at stands.at) ∙ sym (ap has_data stands.at) ∙ narrow

    pub low_bits : HaveLowBits (level old) (level n) c coming
    low_bits x u some =
        let is = narrow_there x some in
        let r = numbering.source x in
        let here = told x is.0 in (
          subst (λ v. v ≤ 1) (sym (late_told (level old) (wire_of c.numbers x) (delay_of c.numbers x) u r here)) (late_low old old_ok r u (narrow_before r.0 is.2 is.1)),
          subst (λ v. v ≤ 1) (sym (late_told (level n) (wire_of c.numbers x) (delay_of c.numbers x) u r here)) (late_low n ok r u is.1),
        )
