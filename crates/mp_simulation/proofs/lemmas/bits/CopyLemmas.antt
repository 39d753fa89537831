-- Delayed copies toggle after what they stand after.
use Rattle.std.proofs.Common.{◌≡◌, ◌≢◌, ℕ, suc, ◌+◌, ◌-◌, ◌*◌, ◌<◌, ◌≤◌, Bool, true, false, cond, List, [], ◌∷◌, ◌++◌, Option, Some, None, All, drop, length, nat_lt, refl, sym, ap, ◌∙◌, arith, subst}
use Rattle.std.specs.Prelude.{◌==◌, ◌&&◌, slice_index_or}
use Rattle.std.specs.List.{sum_by, count_by}
use Rattle.std.proofs.lemmas.Bool.{eqb-true, eqb-false}
use Rattle.std.proofs.lemmas.Bool.Decides.{nat_tests}
use Rattle.std.proofs.lemmas.Grind.{flat_map-append}
use Rattle.std.proofs.Math.ListN.{get_or-eq_default}
use Rattle.mp_netlist.specs.Circuit.{Circuit}
use Rattle.mp_modules.specs.automata.Codes.{bit}
use Rattle.mp_kernel.specs.declared.events.output_port.OutputPort.{OutputPort}
use Rattle.mp_kernel.specs.events.Adding.{listed}
use Rattle.mp_kernel.specs.events.Firing.{HasSlot, no_port, copy_at, entry_of, copied_from, scheduled, is_entry}
use Rattle.mp_kernel.proofs.lemmas.events.EntryLemmas.{schedules_each}
use Rattle.mp_kernel.proofs.lemmas.events.FiringLemmas.{scheduled_append}
use Rattle.mp_simulation.specs.bits.Changes.{change_at, late_change}
use Rattle.mp_simulation.specs.bits.Simulators.{IsBelow}
use Rattle.mp_simulation.specs.bits.Simulations.{IsFrom}
use Rattle.mp_simulation.specs.bits.Copies.{AreListedBelow, AreChained, later_by, HaveCopies, HaveLaterCopies, AreOriginals}
use Rattle.mp_simulation.proofs.lemmas.bits.ScheduleLemmas.{inside, none_some, none_there, counted_own, counted_flat, only_one, sum_of_none}
use Rattle.mp_simulation.proofs.lemmas.bits.TurnLemmas.{turned_at}

same_late : (e d u : ℕ) (late : Bool) → nat_lt e u ≡ late → nat_lt (e + d) (u + d) ≡ nat_lt e u
same_late e d u true is = let now : nat_lt (e + d) (u + d) ≡ true = grind (arith, nat_tests) in now ∙ sym is
same_late e d u false is = let now : nat_lt (e + d) (u + d) ≡ false = grind (arith, nat_tests) in now ∙ sym is

-- a source that is later has its change so much later
pub late_shift : (n : Circuit) (s r : ℕ × ℕ) (d u : ℕ) → s.0 ≡ r.0 → s.1 ≡ r.1 + d → late_change n s (u + d) ≡ late_change n r u
late_shift n s r d u wire delay =
    let test : nat_lt s.1 (u + d) ≡ nat_lt r.1 u = ap (λ k. nat_lt k (u + d)) delay ∙ same_late r.1 d u (nat_lt r.1 u) refl in
    let time : u + d - s.1 ≡ u - r.1 = omega arith in
    ap (λ b. cond b (change_at n s.0 (u + d - s.1)) false) test
    ∙ ap (λ w. cond (nat_lt r.1 u) (change_at n w (u + d - s.1)) false) wire
    ∙ ap (λ k. cond (nat_lt r.1 u) (change_at n r.0 k) false) time

abbrev entries_of : List OutputPort → ℕ → ℕ → ℕ → ℕ
entries_of next k x y = count_by (is_entry k x) (entry_of (copy_at next y))

no_copy : (next : List OutputPort) (k x y : ℕ) → ((copy_at next y).wire ≡ Some x → ⊥) → entries_of next k x y ≡ 0
no_copy next k x y other = none_there k x (copy_at next y).delay (copy_at next y).wire true other

own_copy : (next : List OutputPort) (k x y : ℕ) → (copy_at next y).wire ≡ Some x → entries_of next k x y ≡ bit ((copy_at next y).delay - 1 == k)
own_copy next k x y is =
    ap (λ (o : Option ℕ). count_by (is_entry k x) (entry_of (let port : OutputPort = record { wire = o; delay = (copy_at next y).delay } in port))) is
    ∙ counted_own k x (copy_at next y).delay true

one_more : (c : Bool) → bit (c && false) + bit c * bit true ≡ bit (c && true)
one_more true = refl
one_more false = refl

no_more : (d : Bool) (x : ℕ) → x + bit d * bit false ≡ x
no_more true x = omega arith
no_more false x = omega arith

-- one more change of a copy is known, or none
known_bits : (c d : Bool) (was is entry : Bool) → (entry ≡ true → (was ≡ false) × (is ≡ true) × (d ≡ c)) → (entry ≡ false → was ≡ is) →
    bit (c && was) + bit d * bit entry ≡ bit (c && is)
known_bits c d was is true now before = let facts = now refl in rw (facts.0, facts.1, facts.2) (one_more c)
known_bits c d was is false now before = rw (before refl) (no_more d (bit (c && is)))

same_below : (k d : ℕ) (t : Bool) → nat_lt k d ≡ t → (d - 1 ≡ k → ⊥) → nat_lt (k + 1) d ≡ nat_lt k d
same_below k d true is other =
    let low : k < d = grind (arith, nat_tests) in
    let differs : d - 1 ≢ k = other in
    let now : k + 1 < d = omega arith in
    (let test : nat_lt (k + 1) d ≡ true = grind (arith, nat_tests) in test) ∙ sym is
same_below k d false is other =
    let high : d ≤ k = grind (arith, nat_tests) in
    (let test : nat_lt (k + 1) d ≡ false = grind (arith, nat_tests) in test) ∙ sym is

none_below_zero : (c : Bool) (k : ℕ) → bit (c && nat_lt k 0) ≡ 0
none_below_zero true k = let test : nat_lt k 0 ≡ false = grind (arith, nat_tests) in ap bit test
none_below_zero false k = refl

slot_of : (units : ℕ) (next : List OutputPort) → All (HasSlot units) next → (x y : ℕ) (low : Bool) → nat_lt y (length next) ≡ low → (copy_at next y).wire ≡ Some x →
    HasSlot units (copy_at next y)
slot_of units next within x y true is wire = within y no_port (grind (arith, nat_tests))
slot_of units next within x y false is wire =
    let beyond : length next ≤ y = grind (arith, nat_tests) in
    absurd (none_some x (sym (ap (λ (port : OutputPort). port.wire) (get_or-eq_default next no_port beyond)) ∙ wire))

module _ (n : Circuit) (source : ℕ → ℕ × ℕ) (before : ℕ → Option ℕ) (next : List OutputPort) (t : ℕ) (rest : List (List ℕ)) (heard : List ℕ)
    (chained : AreChained source before next) (within : All (HasSlot (length rest)) next) (taken : HaveLaterCopies n source before next t rest)
    (originals : AreOriginals n source before heard (t + 1)) where
  counted : (x k : ℕ) → k < length rest →
      listed x (slice_index_or (scheduled rest (copied_from next heard)) k []) ≡ listed x (slice_index_or rest k []) + sum_by (entries_of next k x) heard
  counted x k low =
      schedules_each rest (copied_from next heard) k x low
      ∙ ap (λ s. listed x (slice_index_or rest k []) + s) (counted_flat k x (λ y. entry_of (copy_at next y)) heard)

  copies_at : (x k : ℕ) (o : Option ℕ) → before x ≡ o → k < length rest →
      bit (late_change n (source x) (t + 1 + 1 + k) && nat_lt (k + 1) (later_by next o)) + sum_by (entries_of next k x) heard ≡
      bit (late_change n (source x) (t + 1 + 1 + k) && nat_lt k (later_by next o))
  copies_at x k None is low =
      let c = late_change n (source x) (t + 1 + 1 + k) in
      let none = sum_of_none (entries_of next k x) heard (λ j d inside_heard. no_copy next k x (slice_index_or heard j d)
      (λ wire. none_some (slice_index_or heard j d) (sym is ∙ chained.last (slice_index_or heard j d) x wire))) in
      let a = none_below_zero c (k + 1) in
      let b = none_below_zero c k in
      omega arith
  copies_at x k (Some y) is low =
      let wire = chained.first x y is in
      let d = (copy_at next y).delay in
      let slot = slot_of (length rest) next within x y (nat_lt y (length next)) refl wire in
      let some : 0 < (copy_at next y).delay = slot.some in
      let others : All (λ z. z ≢ y → entries_of next k x z ≡ 0) heard =
      λ j e inside_heard other. no_copy next k x (slice_index_or heard j e) (λ w. other (inside (sym (chained.last (slice_index_or heard j e) x w) ∙ is))) in
      let sum : sum_by (entries_of next k x) heard ≡ bit (late_change n (source y) (t + 1)) * bit (d - 1 == k) =
      only_one (entries_of next k x) y heard others
      ∙ ap (λ c. c * entries_of next k x y) (originals x y is)
      ∙ ap (λ c. bit (late_change n (source y) (t + 1)) * c) (own_copy next k x y wire) in
      ap (λ s. bit (late_change n (source x) (t + 1 + 1 + k) && nat_lt (k + 1) d) + s) sum
      ∙ known_bits (late_change n (source x) (t + 1 + 1 + k)) (late_change n (source y) (t + 1)) (nat_lt (k + 1) d) (nat_lt k d) (d - 1 == k)
      (λ here.
      let same : d - 1 ≡ k = eqb-true (d - 1) k here in
      let time : t + 1 + 1 + k ≡ t + 1 + d = omega arith in
      let was : nat_lt (k + 1) d ≡ false = grind (arith, nat_tests) in
      let now : nat_lt k d ≡ true = grind (arith, nat_tests) in
      (was, now, sym (ap (λ u. late_change n (source x) u) time ∙ late_shift n (source x) (source y) d (t + 1) (chained.wire x y is) (chained.delay x y is))))
      (λ else_where. let differs = eqb-false (d - 1) k else_where in same_below k d (nat_lt k d) refl differs)

  pub copies_next : (slots : List (List ℕ)) → slots ≡ scheduled rest (copied_from next heard) → length slots ≡ length rest → HaveCopies n source before next (t + 1) slots
  copies_next slots is same x k low =
      let within_rest : k < length rest = omega arith in
      ap (λ (xs : List (List ℕ)). listed x (slice_index_or xs k [])) is
      ∙ counted x k within_rest
      ∙ ap (λ c. c + sum_by (entries_of next k x) heard) (taken x k within_rest)
      ∙ copies_at x k (before x) refl within_rest

never : (c : Bool) → bit (c && false) ≡ 0
never true = refl
never false = refl

-- the next unit begins
module _ (n : Circuit) (source : ℕ → ℕ × ℕ) (before : ℕ → Option ℕ) (next : List OutputPort) (t : ℕ) (slots : List (List ℕ)) (some : 0 < length slots)
    (chained : AreChained source before next) (within : All (HasSlot (length slots)) next) (have : HaveCopies n source before next t slots) where
  beyond_by : (c : Bool) (x k : ℕ) (o : Option ℕ) → before x ≡ o → length slots ≤ k → bit (c && nat_lt k (later_by next o)) ≡ 0
  beyond_by c x k None is beyond = none_below_zero c k
  beyond_by c x k (Some y) is beyond =
      let slot = slot_of (length slots) next within x y (nat_lt y (length next)) refl (chained.first x y is) in
      let room : (copy_at next y).delay ≤ length slots = slot.room in
      let test : nat_lt k (copy_at next y).delay ≡ false = grind (arith, nat_tests) in
      ap (λ b. bit (c && b)) test ∙ never c

  slot_when : (x k : ℕ) (low : Bool) → nat_lt (suc k) (length slots) ≡ low →
      listed x (slice_index_or slots (suc k) []) ≡ bit (late_change n (source x) (t + 1 + 1 + k) && nat_lt (k + 1) (later_by next (before x)))
  slot_when x k true low =
      let inside_slots : suc k < length slots = grind (arith, nat_tests) in
      let e : suc k ≡ k + 1 = omega arith in
      let time : t + 1 + suc k ≡ t + 1 + 1 + k = omega arith in
      have x (suc k) inside_slots
      ∙ ap (λ u. bit (late_change n (source x) u && nat_lt (suc k) (later_by next (before x)))) time
      ∙ ap (λ j. bit (late_change n (source x) (t + 1 + 1 + k) && nat_lt j (later_by next (before x)))) e
  slot_when x k false low =
      let beyond : length slots ≤ suc k = grind (arith, nat_tests) in
      ap (λ xs. listed x xs) (get_or-eq_default slots [] beyond)
      ∙ sym (beyond_by (late_change n (source x) (t + 1 + 1 + k)) x (k + 1) (before x) refl (omega arith))

  pub copies_later : HaveLaterCopies n source before next t (drop 1 slots ++ [] ∷ [])
  copies_later x k low = ap (λ xs. listed x xs) (turned_at slots k) ∙ slot_when x k (nat_lt (suc k) (length slots)) refl

pub low_turned : (bound : ℕ) (slots : List (List ℕ)) → AreListedBelow bound slots → AreListedBelow bound (drop 1 slots ++ [] ∷ [])
low_turned bound slots low x k high = ap (λ xs. listed x xs) (turned_at slots k) ∙ low x (suc k) high

-- two lists after one another
pub copied_both : (next : List OutputPort) (rest first then : List (List ℕ)) (slot wires : List ℕ) → first ≡ scheduled rest (copied_from next slot) →
    then ≡ scheduled first (copied_from next wires) → then ≡ scheduled rest (copied_from next (slot ++ wires))
copied_both next rest first then slot wires is after =
    after
    ∙ ap (λ (xs : List (List ℕ)). scheduled xs (copied_from next wires)) is
    ∙ sym (scheduled_append rest (copied_from next slot) (copied_from next wires))
    ∙ ap (λ xs. scheduled rest xs) (sym (flat_map-append (λ w. entry_of (copy_at next w)) slot wires))

below_when : (next : List OutputPort) (bound x y : ℕ) (low : Bool) → nat_lt y (length next) ≡ low → All (IsBelow bound) next → (copy_at next y).wire ≡ Some x → x < bound
below_when next bound x y true is below wire = below y no_port (grind (arith, nat_tests)) x wire
below_when next bound x y false is below wire =
    let beyond : length next ≤ y = grind (arith, nat_tests) in
    absurd (none_some x (sym (ap (λ (port : OutputPort). port.wire) (get_or-eq_default next no_port beyond)) ∙ wire))

low_slot : (next : List OutputPort) (rest slots : List (List ℕ)) (heard : List ℕ) (bound x k : ℕ) (low : Bool) → nat_lt k (length rest) ≡ low → All (IsBelow bound) next →
    slots ≡ scheduled rest (copied_from next heard) → length slots ≡ length rest → listed x (slice_index_or rest k []) ≡ 0 → bound ≤ x → listed x (slice_index_or slots k []) ≡ 0
low_slot next rest slots heard bound x k true low below is same none high =
    let within : k < length rest = grind (arith, nat_tests) in
    let nothing = sum_of_none (entries_of next k x) heard (λ j d inside_heard. no_copy next k x (slice_index_or heard j d)
    (λ wire. let less = below_when next bound x (slice_index_or heard j d) (nat_lt (slice_index_or heard j d) (length next)) refl below wire in absurd (omega arith))) in
    let more = schedules_each rest (copied_from next heard) k x within in
    let flat = counted_flat k x (λ y. entry_of (copy_at next y)) heard in
    ap (λ (xs : List (List ℕ)). listed x (slice_index_or xs k [])) is
    ∙ omega arith
low_slot next rest slots heard bound x k false low below is same none high =
    let beyond : length rest ≤ k = grind (arith, nat_tests) in
    ap (λ xs. listed x xs) (get_or-eq_default slots [] (omega arith))

pub low_next : (next : List OutputPort) (rest slots : List (List ℕ)) (heard : List ℕ) (bound : ℕ) → All (IsBelow bound) next →
    slots ≡ scheduled rest (copied_from next heard) → length slots ≡ length rest → AreListedBelow bound rest → AreListedBelow bound slots
low_next next rest slots heard bound below is same none x k high =
    low_slot next rest slots heard bound x k (nat_lt k (length rest)) refl below is same (none x k high) high

pub scheduled_both : (next again once_more : List OutputPort) (rest first then : List (List ℕ)) (slot same_slot wires : List ℕ) → again ≡ next → once_more ≡ next → same_slot ≡ slot →
    first ≡ scheduled rest (copied_from again same_slot) → then ≡ scheduled first (copied_from once_more wires) → then ≡ scheduled rest (copied_from next (slot ++ wires))
scheduled_both next again once_more rest first then slot same_slot wires one two three is after =
    copied_both next rest first then slot wires
    (is ∙ ap (λ (ports : List OutputPort). scheduled rest (copied_from ports same_slot)) one ∙ ap (λ ws. scheduled rest (copied_from next ws)) three)
    (after ∙ ap (λ (ports : List OutputPort). scheduled first (copied_from ports wires)) two)

-- where there are no numbers behind those of wires, nothing has a copy
no_copies : (next : List OutputPort) (wires y x : ℕ) (low : Bool) → nat_lt y (length next) ≡ low → length next ≤ wires → All (IsBelow (length next)) next → All (IsFrom wires) next →
    (copy_at next y).wire ≡ Some x → ⊥
no_copies next wires y x true is few below behind wire =
    let within : y < length next = grind (arith, nat_tests) in
    let low = below y no_port within x wire in
    let high = behind y no_port within x wire in
    absurd (omega arith)
no_copies next wires y x false is few below behind wire =
    let beyond : length next ≤ y = grind (arith, nat_tests) in
    none_some x (sym (ap (λ (port : OutputPort). port.wire) (get_or-eq_default next no_port beyond)) ∙ wire)

pub copies_none : (n : Circuit) (source : ℕ → ℕ × ℕ) (before : ℕ → Option ℕ) (next : List OutputPort) (t wires : ℕ) (rest : List (List ℕ)) → length next ≤ wires →
    All (IsBelow (length next)) next → All (IsFrom wires) next → AreChained source before next → All (HasSlot (length rest)) next → HaveLaterCopies n source before next t rest →
    HaveCopies n source before next (t + 1) rest
copies_none n source before next t wires rest few below behind chained within taken =
    copies_next n source before next t rest [] chained within taken
    (λ x y is. absurd (no_copies next wires y x (nat_lt y (length next)) refl few below behind (chained.first x y is))) rest refl refl

pub behind_kept : (old new : List OutputPort) (wires more : ℕ) → All (IsFrom wires) old → new ≡ old → more ≡ wires → All (IsFrom more) new
behind_kept old new wires more behind same as_many =
    subst (λ (ports : List OutputPort). All (IsFrom more) ports) (sym same) (subst (λ k. All (IsFrom k) old) (sym as_many) behind)
