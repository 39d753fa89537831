-- What changes in the next unit of the new run, as the comparison is given it.
use Rattle.std.proofs.Common.{◌≡◌, ℕ, ◌+◌, ◌-◌, ◌<◌, ◌≤◌, Bool, true, false, not, cond, nat_lt, List, ◌++◌, All, length, refl, sym, ap, subst, ◌∙◌, arith, inl, inr, slice_index_or}
use Rattle.std.specs.Prelude.{◌&&◌, ◌==◌}
use Rattle.std.proofs.lemmas.Bool.{cases_lt, and_parts, ltb-true}
use Rattle.std.proofs.lemmas.List.Elements.{All-append}
use Rattle.mp_netlist.specs.Circuit.{Circuit, IsCircuit}
use Rattle.mp_model.specs.Waves.{level}
use Rattle.mp_modules.specs.automata.Codes.{bit}
use Rattle.mp_kernel.specs.events.Adding.{listed}
use Rattle.mp_simulation.specs.bits.Changes.{change_at}
use Rattle.mp_simulation.specs.bits.Simulators.{slot_at}
use Rattle.mp_simulation.specs.bits.Simulations.{copy_slot}
use Rattle.mp_simulation.proofs.lemmas.bits.ListedLemmas.{listed_append}
use Rattle.mp_kernel.specs.declared.datapath.level_change.LevelChange.{LevelChange}
use Rattle.mp_simulation.specs.declared.units.netlist_simulation.NetlistSimulation.{NetlistSimulation}
use Rattle.mp_simulation.specs.units.DataLevels.{is_data, is_bit_wire, changes_of, late_level}
use Rattle.mp_simulation.specs.units.DataWheels.{data_slot}
use Rattle.mp_simulation.proofs.lemmas.units.LevelWheelLemmas.{changes_append}
use Rattle.mp_simulation.proofs.lemmas.units.PresentLemmas.{change_here}
use Rattle.mp_simulation.specs.declared.run.stimuli.StimulusChange.{StimulusChange}
use Rattle.mp_simulation.specs.run.Stimuli.{bits_at, levels_at}
use Rattle.mp_active.specs.excerpt.Levels.{shown_delay}
use Rattle.mp_active.specs.excerpt.Numberings.{Numbering}
use Rattle.mp_active.specs.excerpt.Showing.{Shows}
use Rattle.mp_active.proofs.lemmas.excerpt.TestLemmas.{bit_true}
use Rattle.mp_netlist.specs.Drivers.{driver}
use Rattle.mp_active.specs.declared.compare.comparison.Comparison.{Comparison}
use Rattle.mp_active.specs.declared.compare.new_changes.NewChanges.{NewChanges}
use Rattle.mp_active.specs.compare.Comparing.{wire_of, delay_of, late, source_at, asleep_at, is_tracked, may_differ, bits_of, levels_of, AreNumbers, AreOfNumbers, AreWithin, AreNewChanges}
use Rattle.mp_active.specs.declared.compare.set_wires.SetWires.{SetWires}
use Rattle.mp_redo.specs.rerun.Coming.{IsComing}
use Rattle.mp_redo.specs.rerun.Following.{AreToCome}
use Rattle.mp_redo.proofs.lemmas.rerun.LateLemmas.{late_is, late_differs}
use Rattle.mp_redo.proofs.lemmas.rerun.NumberLemmas.{changes_stand, asleep_within, all_listed}
use Rattle.mp_redo.proofs.lemmas.rerun.ToComeLemmas.{bits_to_come, levels_to_come, set_to_come}
use Rattle.mp_redo.proofs.lemmas.rerun.ComingLemmas.{IsSplit, wires_ahead, all_come}

-- the next slots are given, what changed stimuli set, and the tails
pub record AreComing (time : ℕ) (stimuli left : List StimulusChange) (s : NetlistSimulation) (coming : NewChanges) : Type 0 where
  pub wires : coming.wires.now ≡ slot_at s.bits.simulator 0
  pub copies : coming.copies.now ≡ copy_slot s.bits.copies 0
  pub set : coming.set.now ≡ bits_at time stimuli ++ bits_at time left
  pub levels : coming.levels.now ≡ data_slot s.wires.wheel 0
  pub set_levels : coming.set_levels.now ≡ levels_at time stimuli ++ levels_at time left

-- where what changed stimuli set, and the tails, are due
pub coming_is : (time : ℕ) (stimuli left : List StimulusChange) (s : NetlistSimulation) (due : SetWires) (coming : NewChanges) → IsComing s due coming →
    due.bits.items ≡ bits_at time stimuli ++ bits_at time left → due.levels.items ≡ levels_at time stimuli ++ levels_at time left → AreComing time stimuli left s coming
coming_is time stimuli left s due coming is bits levels = record {
  wires = is.wires;
  copies = is.copies;
  set = is.set ∙ bits;
  levels = is.levels;
  set_levels = is.set_levels ∙ levels;
}

-- ---- lists

all_changed : (P : ℕ → Type 0) (cs : List LevelChange) → ((x : ℕ) → 0 < changes_of x cs → P x) → All (λ (c : LevelChange). P c.number) cs
all_changed P cs each k d low = each (slice_index_or cs k d).number (change_here cs k d low)

-- a change is told of a wire of width 1 or of one with data
pub narrow_change : (wide c b : Bool) → 0 < cond wide 0 (bit (c && b)) → (wide ≡ false) × (c ≡ true)
narrow_change true c b some = let no : ⊥ = omega (arith, some) in absurd no
narrow_change false c b some = (refl, (and_parts c b (bit_true (c && b) some)).0)

wide_change : (wide c b : Bool) → 0 < cond wide (bit (c && b)) 0 → (wide ≡ true) × (c ≡ true)
wide_change true c b some = (refl, (and_parts c b (bit_true (c && b) some)).0)
wide_change false c b some = let no : ⊥ = omega (arith, some) in absurd no

-- what is so much later than a wire, by its source
pub late_told : (f : ℕ → ℕ → ℕ) (w d u : ℕ) (r : ℕ × ℕ) → r ≡ (w, d) → f w (u - d) ≡ f r.0 (u - r.1)
late_told f w d u r told = ap (λ (q : ℕ × ℕ). f q.0 (u - q.1)) (sym told)

module _ (n : Circuit) (ok : IsCircuit n) (active on : ℕ → Bool) (numbering : Numbering) (t : ℕ) (s : NetlistSimulation) (shows : Shows n active on numbering t s)
    (c : Comparison) (count : length c.numbers.wires.items ≡ length s.bits.simulator.fanout) where
  -- ---- what is known ahead is of numbers
  wires_within : length n.wires ≤ length c.numbers.wires.items
  wires_within =
      let a = shows.bits.wires in
      let b = shows.bits.sound.simulator.rows in
      omega (arith, a, b, count)

  pub low_wire : (w : ℕ) → change_at n w (t + 1) ≡ true → w < length c.numbers.wires.items
  low_wire w changes = let stands = (changes_stand n ok w (t + 1) changes).low in let within = wires_within in omega (arith, stands, within)

  low_in_wires : (x : ℕ) → 0 < listed x (slot_at s.bits.simulator 0) → x < length c.numbers.wires.items
  low_in_wires x some =
      let both = bit_true ((change_at n x (t + 1) && is_bit_wire n x) && nat_lt 0 (shown_delay n active (driver n x)))
      (subst (λ k. 0 < k) (wires_ahead n ok active on numbering t s shows x) some) in
      low_wire x (and_parts (change_at n x (t + 1)) (is_bit_wire n x) (and_parts (change_at n x (t + 1) && is_bit_wire n x) (nat_lt 0 (shown_delay n active (driver n x))) both).0).0

  pub low_in_copies : (x : ℕ) → 0 < listed x (copy_slot s.bits.copies 0) → x < length c.numbers.wires.items
  low_in_copies x some = elim (cases_lt x (length s.bits.simulator.fanout)) as (λ _. x < length c.numbers.wires.items) [
    | inl low ↦ omega (arith, low, count)
    | inr past ↦ let none = shows.bits.sound.copies.numbered x 0 past in let no : ⊥ = omega (arith, none, some) in absurd no
  ]

  pub wires_are_numbers : AreNumbers c.numbers (slot_at s.bits.simulator 0)
  wires_are_numbers = all_listed (λ x. x < length c.numbers.wires.items) (slot_at s.bits.simulator 0) low_in_wires

  pub copies_are_numbers : AreNumbers c.numbers (copy_slot s.bits.copies 0)
  copies_are_numbers = all_listed (λ x. x < length c.numbers.wires.items) (copy_slot s.bits.copies 0) low_in_copies

module _ (n : Circuit) (ok : IsCircuit n) (active on : ℕ → Bool) (numbering : Numbering) (t : ℕ) (s : NetlistSimulation) (shows : Shows n active on numbering t s)
    (c : Comparison) (count : length c.numbers.wires.items ≡ length s.bits.simulator.fanout)
    (told : (x : ℕ) → x < length c.numbers.wires.items → numbering.source x ≡ (wire_of c.numbers x, delay_of c.numbers x))
    (anew tail : ℕ → ℕ → Bool) (stimuli left : List StimulusChange) (first : AreToCome n anew t stimuli) (second : AreToCome n tail t left)
    (coming : NewChanges) (are : AreComing (t + 1) stimuli left s coming) where
  -- ---- the numbers that are listed
  pub bits_sum : (x : ℕ) →
      listed x (bits_of coming)
      ≡ listed x (slot_at s.bits.simulator 0) + (listed x (copy_slot s.bits.copies 0) + (listed x (bits_at (t + 1) stimuli) + listed x (bits_at (t + 1) left)))
  bits_sum x =
      let b = listed_append x (coming.wires.now ++ coming.copies.now) coming.set.now in
      let d = listed_append x coming.wires.now coming.copies.now in
      let f = ap (listed x) are.set ∙ listed_append x (bits_at (t + 1) stimuli) (bits_at (t + 1) left) in
      let g = ap (listed x) are.wires in
      let h = ap (listed x) are.copies in
      omega arith

  levels_sum : (x : ℕ) →
      changes_of x (levels_of coming) ≡ changes_of x (data_slot s.wires.wheel 0) + (changes_of x (levels_at (t + 1) stimuli) + changes_of x (levels_at (t + 1) left))
  levels_sum x =
      let b = changes_append x coming.levels.now coming.set_levels.now in
      let f = ap (changes_of x) are.set_levels ∙ changes_append x (levels_at (t + 1) stimuli) (levels_at (t + 1) left) in
      let g = ap (changes_of x) are.levels in
      omega arith

  -- ---- all are numbers
  low_in_bits : (comes : ℕ → ℕ → Bool) (ss : List StimulusChange) → AreToCome n comes t ss → (x : ℕ) → 0 < listed x (bits_at (t + 1) ss) → x < length c.numbers.wires.items
  low_in_bits comes ss to x some =
      low_wire n ok active on numbering t s shows c count x (narrow_change (is_data n x) (change_at n x (t + 1)) (comes x (t + 1)) (subst (λ k. 0 < k) (bits_to_come n comes t ss to x) some)).1

  low_in_levels : (comes : ℕ → ℕ → Bool) (ss : List StimulusChange) → AreToCome n comes t ss → (x : ℕ) → 0 < changes_of x (levels_at (t + 1) ss) → x < length c.numbers.wires.items
  low_in_levels comes ss to x some =
      low_wire n ok active on numbering t s shows c count x (wide_change (is_data n x) (change_at n x (t + 1)) (comes x (t + 1)) (subst (λ k. 0 < k) (levels_to_come n comes t ss to x) some)).1

  all_in_bits : (comes : ℕ → ℕ → Bool) (ss : List StimulusChange) → AreToCome n comes t ss → AreNumbers c.numbers (bits_at (t + 1) ss)
  all_in_bits comes ss to = all_listed (λ x. x < length c.numbers.wires.items) (bits_at (t + 1) ss) (low_in_bits comes ss to)

  all_in_levels : (comes : ℕ → ℕ → Bool) (ss : List StimulusChange) → AreToCome n comes t ss → AreOfNumbers c.numbers (levels_at (t + 1) ss)
  all_in_levels comes ss to = all_changed (λ x. x < length c.numbers.wires.items) (levels_at (t + 1) ss) (low_in_levels comes ss to)

  low_change : (k : ℕ) (d : LevelChange) → k < length (data_slot s.wires.wheel 0) → (slice_index_or (data_slot s.wires.wheel 0) k d).number < length c.numbers.wires.items
  low_change k d low = let within = shows.wires.numbered 0 k d low in omega (arith, within, count)

  pub all_within : AreWithin c.numbers coming
  all_within = record {
    wires = subst (AreNumbers c.numbers) (sym are.wires) (wires_are_numbers n ok active on numbering t s shows c count);
    copies = subst (AreNumbers c.numbers) (sym are.copies) (copies_are_numbers n ok active on numbering t s shows c count);
    set = subst (AreNumbers c.numbers) (sym are.set)
        (All-append (λ x. x < length c.numbers.wires.items) (bits_at (t + 1) stimuli) (bits_at (t + 1) left) (all_in_bits anew stimuli first) (all_in_bits tail left second));
    levels = subst (AreOfNumbers c.numbers) (sym are.levels) low_change;
    set_levels = subst (AreOfNumbers c.numbers) (sym are.set_levels)
        (All-append (λ (change : LevelChange). change.number < length c.numbers.wires.items) (levels_at (t + 1) stimuli) (levels_at (t + 1) left) (all_in_levels anew stimuli first) (all_in_levels tail left second));
  }

  -- ---- their levels
  abbrev IsRight : LevelChange → Type 0
  IsRight change = change.level ≡ late (level n) c.numbers change.number (t + 1)

  slot_right : All IsRight (data_slot s.wires.wheel 0)
  slot_right k d low =
      let change : LevelChange = slice_index_or (data_slot s.wires.wheel 0) k d in
      let e : t + 1 + 0 ≡ t + 1 = omega arith in
      shows.wires.change_levels 0 k d low
      ∙ ap (late_level n (numbering.source change.number)) e
      ∙ late_is n ok (numbering.source change.number) (t + 1)
      ∙ sym (late_told (level n) (wire_of c.numbers change.number) (delay_of c.numbers change.number) (t + 1) (numbering.source change.number) (told change.number (low_change k d low)))

  list_right : (comes : ℕ → ℕ → Bool) (ss : List StimulusChange) → AreToCome n comes t ss → All IsRight (levels_at (t + 1) ss)
  list_right comes ss to k d low =
      let change : LevelChange = slice_index_or (levels_at (t + 1) ss) k d in
      let x = change.number in
      let some = change_here (levels_at (t + 1) ss) k d low in
      let wide = (wide_change (is_data n x) (change_at n x (t + 1)) (comes x (t + 1)) (subst (λ j. 0 < j) (levels_to_come n comes t ss to x) some)).0 in
      let own = (shows.numbers.data_wires x wide).0 in
      let e : t + 1 - 0 ≡ t + 1 = omega arith in
      set_to_come n comes t ss to k d low
      ∙ sym (late_told (level n) (wire_of c.numbers x) (delay_of c.numbers x) (t + 1) (numbering.source x) (told x (low_in_levels comes ss to x some))
      ∙ ap (λ (r : ℕ × ℕ). level n r.0 (t + 1 - r.1)) own ∙ ap (level n x) e)

  all_right : All IsRight (levels_of coming)
  all_right =
      All-append IsRight coming.levels.now coming.set_levels.now (subst (All IsRight) (sym are.levels) slot_right)
      (subst (All IsRight) (sym are.set_levels) (All-append IsRight (levels_at (t + 1) stimuli) (levels_at (t + 1) left) (list_right anew stimuli first) (list_right tail left second)))

  -- ---- just those that change are there
  module _ (until : ℕ → ℕ) (sources : (w : ℕ) → (source_at c w).until ≡ until w) (places : length c.asleep.items ≡ length c.numbers.wires.items)
      (lit : (w : ℕ) → 0 < until w → on w ≡ true) (split : (w : ℕ) → 0 < until w → t + 1 < until w → IsSplit n active anew tail (t + 1) w) where
    once : (x : ℕ) → is_tracked c x (t + 1) ≡ true →
        listed x (bits_of coming) + changes_of x (levels_of coming) ≡ bit (not (late (level n) c.numbers x t == late (level n) c.numbers x (t + 1)))
    once x tracked =
        let w = wire_of c.numbers x in
        let d = delay_of c.numbers x in
        let parts = and_parts (nat_lt 0 (asleep_at c x)) (may_differ (source_at c w) d (t + 1)) tracked in
        let may = and_parts (nat_lt (t + 1) ((source_at c w).until + d)) (nat_lt 0 (source_at c w).until) parts.1 in
        let within = asleep_within c places x (ltb-true 0 (asleep_at c x) parts.0) in
        let is = told x within in
        let until_is = sources w in
        let early = ltb-true (t + 1) ((source_at c w).until + d) may.0 in
        let some = ltb-true 0 (source_at c w).until may.1 in
        let bright : on (numbering.source x).0 ≡ true = ap (λ (r : ℕ × ℕ). on r.0) is ∙ lit w (omega (arith, some, until_is)) in
        let comes = all_come n ok active on numbering t s shows anew tail stimuli left first second x (omega (arith, within, count)) bright
        (λ own.
        let wire : w ≡ x = ap (λ (r : ℕ × ℕ). r.0) (sym is ∙ own) in
        let none : d ≡ 0 = ap (λ (r : ℕ × ℕ). r.1) (sym is ∙ own) in
        subst (IsSplit n active anew tail (t + 1)) wire (split w (omega (arith, some, until_is)) (omega (arith, early, until_is, none)))) in
        let same = ap (λ v. bit (not (v == late (level n) c.numbers x (t + 1)))) (late_told (level n) w d t (numbering.source x) is)
        ∙ ap (λ v. bit (not (level n (numbering.source x).0 (t - (numbering.source x).1) == v))) (late_told (level n) w d (t + 1) (numbering.source x) is)
        ∙ ap bit (late_differs n ok (numbering.source x) t) in
        let bits = bits_sum x in
        let levels = levels_sum x in
        omega (arith, comes, same, bits, levels)

    pub are_new : (time : ℕ) → t + 1 ≡ time → AreNewChanges (level n) time c coming
    are_new time next = subst (λ u. AreNewChanges (level n) u c coming) next (record {
      once = λ x tracked.
          let before : t + 1 - 1 ≡ t = omega arith in
          once x tracked ∙ ap (λ u. bit (not (late (level n) c.numbers x u == late (level n) c.numbers x (t + 1)))) (sym before);
      levels = λ k d low. λ tracked. all_right k d low;
    })
