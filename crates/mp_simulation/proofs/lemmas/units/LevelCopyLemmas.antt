-- Delayed copies of wires with data have their levels after what they stand after.
use Rattle.std.proofs.Common.{◌≡◌, ℕ, ◌+◌, ◌-◌, ◌*◌, ◌<◌, Bool, true, false, cond, nat_lt, List, [], ◌∷◌, Option, Some, None, All, refl, sym, ap, ◌∙◌, arith}
use Rattle.std.specs.Prelude.{◌==◌}
use Rattle.std.specs.List.{count_by, sum_by, flat_map}
use Rattle.std.proofs.lemmas.Bool.{eqb-true, eqb-false}
use Rattle.std.proofs.lemmas.Bool.Decides.{nat_tests}
use Rattle.std.proofs.lemmas.List.Elements.{All-nil, All-cons, All-head, All-tail, All-append}
use Rattle.std.proofs.lemmas.List.Sums.{sum_by-cons}
use Rattle.mp_netlist.specs.Circuit.{Circuit, wire_at}
use Rattle.mp_model.specs.Levels.{initial_of}
use Rattle.mp_model.specs.Waves.{level}
use Rattle.mp_modules.specs.automata.Codes.{bit}
use Rattle.mp_kernel.specs.declared.events.output_port.OutputPort.{OutputPort}
use Rattle.mp_kernel.specs.events.Firing.{copy_at}
use Rattle.mp_simulation.specs.bits.Copies.{AreChained}
use Rattle.mp_simulation.proofs.lemmas.bits.ScheduleLemmas.{inside, none_some}
use Rattle.mp_kernel.specs.declared.datapath.level_change.LevelChange.{LevelChange}
use Rattle.mp_kernel.specs.datapath.LevelWheels.{entry_at, copied_from}
use Rattle.mp_simulation.specs.units.DataLevels.{late_level, changes_of, IsLevelAt}
use Rattle.mp_simulation.proofs.lemmas.units.LevelWheelLemmas.{is_change, counted_flat, HoldsOf}
use Rattle.mp_simulation.proofs.lemmas.units.AheadLemmas.{counted_entry, no_entry}

-- ---- sums and lists of lists

pub sum_zero : {A : Type 0} (f : A → ℕ) (xs : List A) → ((x : A) → f x ≡ 0) → sum_by f xs ≡ 0
sum_zero f [] none = refl
sum_zero f (x ∷ xs) none =
    let here = none x in
    let rest = sum_zero f xs none in
    sum_by-cons f x xs ∙ omega arith

pub sum_where : {A : Type 0} (f : A → ℕ) (p : A → Bool) (b : ℕ) (xs : List A) → ((x : A) → f x ≡ bit (p x) * b) → sum_by f xs ≡ count_by p xs * b
sum_where f p b [] each = omega arith
sum_where f p b (x ∷ xs) each =
    let here = each x in
    let rest = sum_where f p b xs each in
    let left = sum_by-cons f x xs in
    let right : count_by p (x ∷ xs) ≡ bit (p x) + count_by p xs = sum_by-cons (λ y. cond (p y) 1 0) x xs in
    let product : (bit (p x) + count_by p xs) * b ≡ bit (p x) * b + count_by p xs * b = grind arith in
    left ∙ (let sum : f x + sum_by f xs ≡ bit (p x) * b + count_by p xs * b = omega arith in sum) ∙ sym product ∙ ap (λ k. k * b) (sym right)

pub all_flat : {A B : Type 0} (P : B → Type 0) (f : A → List B) (Q : A → Type 0) (xs : List A) → ((x : A) → Q x → All P (f x)) → All Q xs → All P (flat_map f xs)
all_flat P f Q [] each all = All-nil P
all_flat P f Q (x ∷ xs) each all =
    All-append P (f x) (flat_map f xs) (each x (All-head Q x xs all)) (all_flat P f Q xs each (All-tail Q x xs all))

-- ---- a source that is later has its level so much later

same_late : (e d u : ℕ) (late : Bool) → nat_lt e u ≡ late → nat_lt (e + d) (u + d) ≡ nat_lt e u
same_late e d u true is = let now : nat_lt (e + d) (u + d) ≡ true = grind (arith, nat_tests) in now ∙ sym is
same_late e d u false is = let now : nat_lt (e + d) (u + d) ≡ false = grind (arith, nat_tests) in now ∙ sym is

pub level_shift : (n : Circuit) (s r : ℕ × ℕ) (d u : ℕ) → s.0 ≡ r.0 → s.1 ≡ r.1 + d → late_level n s (u + d) ≡ late_level n r u
level_shift n s r d u wire delay =
    let test : nat_lt (u + d) s.1 ≡ nat_lt u r.1 = ap (λ k. nat_lt (u + d) k) delay ∙ same_late u d r.1 (nat_lt u r.1) refl in
    let time : u + d - s.1 ≡ u - r.1 = omega arith in
    ap (λ b. cond b (initial_of (wire_at n s.0)) (level n s.0 (u + d - s.1))) test
    ∙ ap (λ w. cond (nat_lt u r.1) (initial_of (wire_at n w)) (level n w (u + d - s.1))) wire
    ∙ ap (λ k. cond (nat_lt u r.1) (initial_of (wire_at n r.0)) (level n r.0 k)) time

module _ (n : Circuit) (source : ℕ → ℕ × ℕ) (before : ℕ → Option ℕ) (next : List OutputPort) (t : ℕ) (present : List LevelChange) (chained : AreChained source before next) where
  abbrev entries_of : LevelChange → List (ℕ × LevelChange)
  entries_of c = entry_at (copy_at next c.number).wire (copy_at next c.number).delay c.level

  -- what stands after nothing is no copy
  pub no_copies : (x k : ℕ) → before x ≡ None → count_by (is_change k x) (copied_from next present) ≡ 0
  no_copies x k none =
      counted_flat k x entries_of present
      ∙ sum_zero (λ c. count_by (is_change k x) (entries_of c)) present
      (λ c. no_entry k x (copy_at next c.number).delay c.level (copy_at next c.number).wire (λ wire. none_some c.number (sym none ∙ chained.last c.number x wire)))

  one_copy : (x y k : ℕ) (c : LevelChange) (own : Bool) → before x ≡ Some y → (c.number == y) ≡ own →
      count_by (is_change k x) (entries_of c) ≡ bit own * bit ((copy_at next y).delay - 1 == k)
  one_copy x y k c true after is =
      ap (λ z. count_by (is_change k x) (entry_at (copy_at next z).wire (copy_at next z).delay c.level)) (eqb-true c.number y is)
      ∙ ap (λ (o : Option ℕ). count_by (is_change k x) (entry_at o (copy_at next y).delay c.level)) (chained.first x y after)
      ∙ counted_entry k x (copy_at next y).delay c.level
      ∙ (let once : bit ((copy_at next y).delay - 1 == k) ≡ 1 * bit ((copy_at next y).delay - 1 == k) = omega arith in once)
  one_copy x y k c false after is =
      no_entry k x (copy_at next c.number).delay c.level (copy_at next c.number).wire (λ wire. eqb-false c.number y is (inside (sym (chained.last c.number x wire) ∙ after)))
      ∙ (let none : 0 ≡ 0 * bit ((copy_at next y).delay - 1 == k) = omega arith in none)

  -- a copy is entered as often as what it stands after changes
  pub copies_are : (x y k : ℕ) → before x ≡ Some y → count_by (is_change k x) (copied_from next present) ≡ changes_of y present * bit ((copy_at next y).delay - 1 == k)
  copies_are x y k after =
      counted_flat k x entries_of present
      ∙ sum_where (λ c. count_by (is_change k x) (entries_of c)) (λ (c : LevelChange). c.number == y) (bit ((copy_at next y).delay - 1 == k)) present
      (λ c. one_copy x y k c (c.number == y) after refl)

  one_holds : (P : ℕ → LevelChange → Type 0) (c : LevelChange) (o : Option ℕ) → (copy_at next c.number).wire ≡ o →
      ((x : ℕ) → (copy_at next c.number).wire ≡ Some x → P ((copy_at next c.number).delay - 1) (record { number = x; level = c.level })) →
      All (HoldsOf P) (entry_at o (copy_at next c.number).delay c.level)
  one_holds P c None wire holds = All-nil (HoldsOf P)
  one_holds P c (Some x) wire holds = All-cons (HoldsOf P) ((copy_at next c.number).delay - 1, record { number = x; level = c.level }) [] (holds x wire) (All-nil (HoldsOf P))

  -- what holds of each change that a copy repeats
  pub copied_hold : (P : ℕ → LevelChange → Type 0) (Q : LevelChange → Type 0) →
      ((c : LevelChange) (x : ℕ) → (copy_at next c.number).wire ≡ Some x → Q c → P ((copy_at next c.number).delay - 1) (record { number = x; level = c.level })) →
      All Q present → All (HoldsOf P) (copied_from next present)
  copied_hold P Q holds all =
      all_flat (HoldsOf P) entries_of Q present (λ c here. one_holds P c (copy_at next c.number).wire refl (λ x wire. holds c x wire here)) all

  pub copied_levels : All (IsLevelAt n source (t + 1)) present → All (HoldsOf (λ k. IsLevelAt n source (t + 1 + 1 + k))) (copied_from next present)
  copied_levels right =
      copied_hold (λ k. IsLevelAt n source (t + 1 + 1 + k)) (IsLevelAt n source (t + 1))
      (λ c x wire here.
      let after = chained.last c.number x wire in
      let d = (copy_at next c.number).delay in
      let some : 0 < (copy_at next c.number).delay = chained.some x c.number after in
      let time : t + 1 + d ≡ t + 1 + 1 + (d - 1) = omega arith in
      here ∙ sym (level_shift n (source x) (source c.number) d (t + 1) (chained.wire x c.number after) (chained.delay x c.number after)) ∙ ap (λ u. late_level n (source x) u) time)
      right
