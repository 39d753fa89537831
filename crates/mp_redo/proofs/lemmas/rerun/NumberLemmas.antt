-- Numbers of wires of width 1, of wires with data, and of their copies.
use Rattle.std.proofs.Common.{◌≡◌, ℕ, ◌<◌, ◌≤◌, Bool, true, false, not, nat_lt, Option, Some, None, length, refl, ap, ◌∙◌, arith, inl, inr, List, All}
use Rattle.std.specs.Prelude.{slice_index_or}
use Rattle.std.proofs.lemmas.Bool.{cases_lt, cases_Bool, and_parts}
use Rattle.std.proofs.lemmas.List.{get_or_past}
use Rattle.mp_records.specs.declared.wire_record.WireRecord.{WireRecord}
use Rattle.mp_netlist.specs.Circuit.{Circuit, IsCircuit, wire_at}
use Rattle.mp_netlist.proofs.DriverLemmas.{leaves_no_driver}
use Rattle.mp_simulation.specs.bits.Changes.{change_at}
use Rattle.mp_simulation.proofs.lemmas.bits.WholeLemmas.{undriven}
use Rattle.mp_simulation.specs.declared.units.netlist_simulation.NetlistSimulation.{NetlistSimulation}
use Rattle.mp_simulation.specs.units.DataLevels.{is_data, is_bit_wire}
use Rattle.mp_active.specs.excerpt.Numberings.{Numbering, HasNumbers}
use Rattle.mp_active.specs.declared.compare.comparison.Comparison.{Comparison}
use Rattle.mp_active.specs.compare.Comparing.{asleep_at}
use Rattle.mp_kernel.specs.events.Adding.{listed}
use Rattle.mp_simulation.proofs.lemmas.bits.ListedLemmas.{listed_here}
use Rattle.mp_active.proofs.lemmas.excerpt.KeptLemmas.{bit_is}

-- what no wire stands under never changes
pub gone_rests : (n : Circuit) → IsCircuit n → (w u : ℕ) → wire_at n w ≡ None → change_at n w u ≡ false
gone_rests n ok w u none = undriven n ok w u (leaves_no_driver n ok w none)

pub past_rests : (n : Circuit) → IsCircuit n → (w u : ℕ) → length n.wires ≤ w → change_at n w u ≡ false
past_rests n ok w u past = gone_rests n ok w u (get_or_past n.wires w None past)

-- what changes is a wire that stands
pub record Stands (n : Circuit) (w : ℕ) : Type 0 where
  pub wire : WireRecord
  pub at : wire_at n w ≡ Some wire
  pub low : w < length n.wires

pub changes_stand : (n : Circuit) → IsCircuit n → (w u : ℕ) → change_at n w u ≡ true → Stands n w
changes_stand n ok w u changes = by (wire_at n w) refl
  where
    by : (slot : Option WireRecord) → wire_at n w ≡ slot → Stands n w
    by None at = let rests = gone_rests n ok w u at in let no : ⊥ = cc in absurd no
    by (Some r) at = record {
      wire = r;
      at = at;
      low = elim (cases_lt w (length n.wires)) as (λ _. w < length n.wires) [
        | inl low ↦ low
        | inr past ↦ let rests = past_rests n ok w u past in let no : ⊥ = cc in absurd no
      ];
    }

pub bit_wire_narrow : (n : Circuit) (w : ℕ) → is_bit_wire n w ≡ true → is_data n w ≡ false
bit_wire_narrow n w is = by (is_data n w) (and_parts (nat_lt w (length n.wires)) (not (is_data n w)) is).1
  where
    by : (b : Bool) → not b ≡ true → b ≡ false
    by true e = let no : ⊥ = cc in absurd no
    by false e = refl

-- a number that is of no wire never changes
pub other_rests : (n : Circuit) → IsCircuit n → (w u : ℕ) → is_bit_wire n w ≡ false → is_data n w ≡ false → change_at n w u ≡ false
other_rests n ok w u none narrow = elim (cases_lt w (length n.wires)) as (λ _. change_at n w u ≡ false) [
  | inl low ↦ let is = bit_is n w low narrow in let no : ⊥ = cc in absurd no
  | inr past ↦ past_rests n ok w u past
]

-- only numbers are read by modules that sleep
pub asleep_within : (c : Comparison) → length c.asleep.items ≡ length c.numbers.wires.items → (x : ℕ) → 0 < asleep_at c x → x < length c.numbers.wires.items
asleep_within c places x some = elim (cases_lt x (length c.numbers.wires.items)) as (λ _. x < length c.numbers.wires.items) [
  | inl low ↦ low
  | inr past ↦
      let none : asleep_at c x ≡ 0 = get_or_past c.asleep.items x 0 (omega (arith, past, places)) in
      let no : ⊥ = omega (arith, none, some) in absurd no
]

module _ (n : Circuit) (numbering : Numbering) (s : NetlistSimulation) (has : HasNumbers n numbering s) where
  -- a wire of width 1 stands after no number
  pub bit_wire_first : (x : ℕ) → is_bit_wire n x ≡ true → numbering.before x ≡ None
  bit_wire_first x is = by (numbering.before x) refl
    where
      by : (o : Option ℕ) → numbering.before x ≡ o → o ≡ None
      by None at = refl
      by (Some y) at = let copy = (has.copies x y at).0 in let no : ⊥ = cc in absurd no

  -- nor does what has data, among those of width 1
  pub wide_first : (x : ℕ) → is_data n (numbering.source x).0 ≡ true → numbering.before x ≡ None
  wide_first x wide = by (numbering.before x) refl
    where
      by : (o : Option ℕ) → numbering.before x ≡ o → o ≡ None
      by None at = refl
      by (Some y) at = let narrow = has.bit_copies x y at in let no : ⊥ = cc in absurd no

  -- a number is a wire of width 1 only where its source is
  pub bit_wire_source : (x : ℕ) → is_bit_wire n x ≡ true → is_data n (numbering.source x).0 ≡ false
  bit_wire_source x is = ap (λ (r : ℕ × ℕ). is_data n r.0) (has.wires x is) ∙ bit_wire_narrow n x is

  pub wide_number : (x : ℕ) → is_data n (numbering.source x).0 ≡ true → is_bit_wire n x ≡ false
  wide_number x wide = elim (cases_Bool (is_bit_wire n x)) as (λ _. is_bit_wire n x ≡ false) [
    | inl is ↦ let narrow = bit_wire_source x is in let no : ⊥ = cc in absurd no
    | inr other ↦ other
  ]

  -- and a wire with data only where its source is
  pub data_source : (x : ℕ) → is_data n x ≡ true → is_data n (numbering.source x).0 ≡ true
  data_source x wide = ap (λ (r : ℕ × ℕ). is_data n r.0) (has.data_wires x wide).0 ∙ wide

  pub narrow_number : (x : ℕ) → is_data n (numbering.source x).0 ≡ false → is_data n x ≡ false
  narrow_number x narrow = elim (cases_Bool (is_data n x)) as (λ _. is_data n x ≡ false) [
    | inl wide ↦ let there = data_source x wide in let no : ⊥ = cc in absurd no
    | inr other ↦ other
  ]

  -- a copy with data is no wire
  pub data_copy_number : (x y : ℕ) → numbering.data_before x ≡ Some y → is_data n x ≡ false
  data_copy_number x y at = elim (cases_Bool (is_data n x)) as (λ _. is_data n x ≡ false) [
    | inl wide ↦ let first = (has.data_wires x wide).1 in let no : ⊥ = cc in absurd no
    | inr other ↦ other
  ]

-- what holds of each number that is listed holds of all
pub all_listed : (P : ℕ → Type 0) (xs : List ℕ) → ((x : ℕ) → 0 < listed x xs → P x) → All P xs
all_listed P xs each k d low = each (slice_index_or xs k d) (listed_here xs k d low)
