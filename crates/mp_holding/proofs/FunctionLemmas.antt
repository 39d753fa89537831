-- What holds the outputs of modules that serve nobody.
use Rattle.std.proofs.Common.{◌≡◌, ℕ, ◌+◌, ◌-◌, ◌/◌, ◌%◌, ◌^◌, ◌==◌, ◌⊎◌, inl, inr, Bool, true, false, not, cond, List, [], ◌∷◌, slice_index, refl, ap, sym, ◌∙◌, eq-eqb}
use Rattle.std.specs.Prelude.{bit_xor}
use Rattle.std.proofs.lemmas.Bool.{cases_Bool, eqb-true}
use Rattle.mp_modules.specs.declared.function.Function.{Function}
use Rattle.mp_modules.specs.declared.function.Function.TheVariants as functions
use Rattle.mp_modules.specs.declared.memory.Memory.{Memory}
use Rattle.mp_modules.specs.declared.rendezvous.Rendezvous.{Rendezvous}
use Rattle.mp_modules.specs.CElement.{bubbled, joined}
use Rattle.mp_modules.specs.Memories.{input_levels, output_of, flipped, seen, with_outputs, with_one_output}
use Rattle.mp_modules.specs.Select.{select_step, chosen}
use Rattle.mp_modules.specs.Toggle.{toggle_step, turn}
use Rattle.mp_modules.specs.storage.Functions.{result_of}
use Rattle.mp_modules.specs.storage.Reg.{is_open, latched}
use Rattle.mp_modules.specs.storage.Widths.{modulus}
use Rattle.mp_holding.specs.Holding.{where_so, joining_sets, storing_sets, function_set}
use Rattle.mp_holding.specs.Laws.{HasSet, AreSame}
use Rattle.mp_holding.proofs.SetLemmas.{has_left, has_right, has_cases, where_is, has_where, same_for, no_event}

-- ---- functions

-- what a function gives goes by the inputs that hold it
module _ (width k : ℕ) (x y : List ℕ) where
  abbrev Keeps : Function → Type 0
  Keeps f = AreSame (function_set f (input_levels x)) x y
      → result_of f width k (slice_index y 0) (slice_index y 1) (slice_index y 2) ≡ result_of f width k (slice_index x 0) (slice_index x 1) (slice_index x 2)

  chosen_keeps : (first : Bool) → (slice_index x 2 == 0) ≡ first → AreSame (cond first 0 1 ∷ 2 ∷ []) x y
      → cond (slice_index y 2 == 0) (slice_index y 0) (slice_index y 1) ≡ cond (slice_index x 2 == 0) (slice_index x 0) (slice_index x 1)
  chosen_keeps true is same = rw (same.1.0, is) same.0
  chosen_keeps false is same = rw (same.1.0, is) same.0

  pub function_keeps : (f : Function) → Keeps f
  function_keeps functions.Buf same = same.0
  function_keeps functions.Not same = ap (λ v. 1 - v) same.0
  function_keeps functions.AddC same = ap (λ v. (v + k) % modulus width) same.0
  function_keeps functions.XorC same = ap (λ v. bit_xor v k) same.0
  function_keeps functions.Bit same = ap (λ v. v / 2 ^ k % 2) same.0
  function_keeps functions.Mux same = chosen_keeps (slice_index x 2 == 0) refl same
  function_keeps _ same = rw (same.0, same.1.0) refl

-- ---- TOGGLE and SELECT

pub toggle_keeps : (s : Memory) (x y : List ℕ) (p : ℕ) → slice_index y 0 ≡ slice_index x 0 → output_of (toggle_step (toggle_step s x) y) p ≡ output_of (toggle_step s x) p
toggle_keeps s x y p same =
    let m = toggle_step s x in
    ap (λ b. output_of (seen y (cond b (flipped (turn m) m) m)) p) (no_event (slice_index x 0) (slice_index y 0) same)

pub select_keeps : (s : Memory) (x y : List ℕ) (p : ℕ) → slice_index y 0 ≡ slice_index x 0 → output_of (select_step (select_step s x) y) p ≡ output_of (select_step s x) p
select_keeps s x y p same =
    let m = select_step s x in
    ap (λ b. output_of (seen y (cond b (flipped (chosen y) m) m)) p) (no_event (slice_index x 0) (slice_index y 0) same)

-- ---- C

abbrev behind_a : Rendezvous → List ℕ → ℕ
behind_a c x = bubbled c.bubble_a (slice_index x 0)

abbrev behind_b : Rendezvous → List ℕ → ℕ
behind_b c x = bubbled c.bubble_b (slice_index x 1)

module _ (c : Rendezvous) (q : ℕ) (x y : List ℕ) where
  first_keeps : behind_a c x ≡ q → slice_index y 0 ≡ slice_index x 0 → joined c q y ≡ q
  first_keeps is same = by (cases_Bool (behind_a c y == behind_b c y))
    where
      by : ((behind_a c y == behind_b c y) ≡ true) ⊎ ((behind_a c y == behind_b c y) ≡ false) → joined c q y ≡ q
      by (inl agree) = ap (λ b. cond b (behind_a c y) q) agree ∙ ap (bubbled c.bubble_a) same ∙ is
      by (inr apart) = ap (λ b. cond b (behind_a c y) q) apart

  second_keeps : behind_b c x ≡ q → slice_index y 1 ≡ slice_index x 1 → joined c q y ≡ q
  second_keeps is same = by (cases_Bool (behind_a c y == behind_b c y))
    where
      by : ((behind_a c y == behind_b c y) ≡ true) ⊎ ((behind_a c y == behind_b c y) ≡ false) → joined c q y ≡ q
      by (inl agree) = ap (λ b. cond b (behind_a c y) q) agree ∙ eqb-true (behind_a c y) (behind_b c y) agree ∙ ap (bubbled c.bubble_b) same ∙ is
      by (inr apart) = ap (λ b. cond b (behind_a c y) q) apart

  abbrev before : Memory
  before = with_one_output x q

  abbrev now : Memory
  now = with_one_output y (joined c q y)

  pub joins_keep : (set : List ℕ) → HasSet (joining_sets c before) set → AreSame set x y → (joined c q y ≡ q) × HasSet (joining_sets c now) set
  joins_keep set has same =
      by (has_cases (where_so (behind_a c x == q) (0 ∷ [])) (where_so (behind_b c x == q) (1 ∷ [])) set has)
    where
      firsts : List (List ℕ)
      firsts = where_so (behind_a c y == joined c q y) (0 ∷ [])

      seconds : List (List ℕ)
      seconds = where_so (behind_b c y == joined c q y) (1 ∷ [])

      by : HasSet (where_so (behind_a c x == q) (0 ∷ [])) set ⊎ HasSet (where_so (behind_b c x == q) (1 ∷ [])) set → (joined c q y ≡ q) × HasSet (joining_sets c now) set
      by (inl first) =
          let is = where_is (behind_a c x == q) (0 ∷ []) set first in
          let here = eqb-true (behind_a c x) q is.0 in
          let stays = (same_for (0 ∷ []) set x y is.1 same).0 in
          let keeps = first_keeps here stays in (
            keeps,
            has_left firsts seconds set
                (has_where (behind_a c y == joined c q y) (0 ∷ []) set (eq-eqb (behind_a c y) (joined c q y) (ap (bubbled c.bubble_a) stays ∙ here ∙ sym keeps)) is.1),
          )
      by (inr second) =
          let is = where_is (behind_b c x == q) (1 ∷ []) set second in
          let here = eqb-true (behind_b c x) q is.0 in
          let stays = (same_for (1 ∷ []) set x y is.1 same).0 in
          let keeps = second_keeps here stays in (
            keeps,
            has_right firsts seconds set
                (has_where (behind_b c y == joined c q y) (1 ∷ []) set (eq-eqb (behind_b c y) (joined c q y) (ap (bubbled c.bubble_b) stays ∙ here ∙ sym keeps)) is.1),
          )

-- ---- REG

module _ (q : ℕ) (x y : List ℕ) where
  abbrev stored : List ℕ → ℕ → Memory
  stored levels kept = with_outputs levels (kept ∷ slice_index levels 1 ∷ slice_index levels 2 ∷ [])

  pub stores_keep : (set : List ℕ) → HasSet (storing_sets (stored x q)) set → AreSame set x y → (latched q y ≡ q) × HasSet (storing_sets (stored y (latched q y))) set
  stores_keep set has same =
      by (has_cases (where_so (not (is_open x)) (1 ∷ 2 ∷ [])) (where_so (slice_index x 0 == q) (0 ∷ [])) set has)
    where
      firsts : List (List ℕ)
      firsts = where_so (not (is_open y)) (1 ∷ 2 ∷ [])

      seconds : List (List ℕ)
      seconds = where_so (slice_index y 0 == latched q y) (0 ∷ [])

      closed : (b : Bool) → not b ≡ true → b ≡ false
      closed true is = let wrong : ⊥ = cc in absurd wrong
      closed false is = refl

      data_keeps : slice_index y 0 ≡ q → latched q y ≡ q
      data_keeps is = ap (λ v. cond (is_open y) v q) is ∙ either (is_open y)
        where
          either : (b : Bool) → cond b q q ≡ q
          either true = refl
          either false = refl

      by : HasSet (where_so (not (is_open x)) (1 ∷ 2 ∷ [])) set ⊎ HasSet (where_so (slice_index x 0 == q) (0 ∷ [])) set → (latched q y ≡ q) × HasSet (storing_sets (stored y (latched q y))) set
      by (inl first) =
          let is = where_is (not (is_open x)) (1 ∷ 2 ∷ []) set first in
          let stay = same_for (1 ∷ 2 ∷ []) set x y is.1 same in
          let alike : is_open y ≡ is_open x = ap (λ v. v == slice_index y 2) stay.0 ∙ ap (λ v. slice_index x 1 == v) stay.1.0 in
          let held : is_open y ≡ false = alike ∙ closed (is_open x) is.0 in
          (ap (λ b. cond b (slice_index y 0) q) held, has_left firsts seconds set (has_where (not (is_open y)) (1 ∷ 2 ∷ []) set (ap not held) is.1))
      by (inr second) =
          let is = where_is (slice_index x 0 == q) (0 ∷ []) set second in
          let here = eqb-true (slice_index x 0) q is.0 in
          let stays = (same_for (0 ∷ []) set x y is.1 same).0 in
          let keeps = data_keeps (stays ∙ here) in
          (keeps, has_right firsts seconds set (has_where (slice_index y 0 == latched q y) (0 ∷ []) set (eq-eqb (slice_index y 0) (latched q y) (stays ∙ here ∙ sym keeps)) is.1))
