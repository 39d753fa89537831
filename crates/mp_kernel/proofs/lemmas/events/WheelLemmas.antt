-- Slots that lie in a circle.
use Rattle.std.proofs.Common.{◌≡◌, ℕ, zero, suc, ◌+◌, ◌-◌, ◌<◌, ◌≤◌, Bool, true, false, cond, nat_lt, List, [], ◌∷◌, ◌++◌, length, take, drop, refl, sym, ap, ◌∙◌, arith}
use Rattle.std.specs.Prelude.{slice_index_or, slice_set}
use Rattle.std.proofs.lemmas.Bool.Decides.{nat_tests}
use Rattle.std.proofs.lemmas.List.{append-nil, append_assoc, length-append, length-drop, length-take-le, get_or_append_left, get_or-append_right, get_or-drop, get_or-take, set-append_left, set-append_right, set_split, take-set-le, drop-set-lt, drop-set-add, drop-append-le, drop-drop, drop_all, take_more_set}
use Rattle.mp_kernel.specs.events.EventWheels.{with_entry, turned_by}

-- the place that is so many after another, in a circle of so many
abbrev pub place_after : ℕ → ℕ → ℕ → ℕ
place_after place steps places = cond (nat_lt steps (places - place)) (place + steps) (steps - (places - place))

-- they stay as many
pub turned_length : {A : Type 0} (slots : List (List A)) (next : ℕ) → next ≤ length slots → length (turned_by next slots) ≡ length slots
turned_length slots next within =
    length-append (drop next slots) (take next slots) ∙ ap (λ k. k + length (take next slots)) (length-drop next slots)
    ∙ ap (λ k. length slots - next + k) (length-take-le next slots within) ∙ omega arith

take_set : {A : Type 0} (n i : ℕ) (xs : List (List A)) (x : List A) → take n (slice_set xs i x) ≡ slice_set (take n xs) i x
take_set zero i xs x = refl
take_set (suc n) i [] x = refl
take_set (suc n) zero (y ∷ ys) x = refl
take_set {A} (suc n) (suc i) (y ∷ ys) x = ap (λ (zs : List (List A)). y ∷ zs) (take_set n i ys x)

module _ {A : Type 0} (slots : List (List A)) (next : ℕ) (within : next < length slots) where
  front_length : length (drop next slots) ≡ length slots - next
  front_length = length-drop next slots

  set_when : (later : ℕ) (x : List A) (low : Bool) → nat_lt later (length slots - next) ≡ low → later < length slots →
      turned_by next (slice_set slots (place_after next later (length slots)) x) ≡ slice_set (turned_by next slots) later x
  set_when later x true is fits =
      let long = front_length in
      let inside : later < length slots - next = grind (arith, nat_tests) in
      let front : later < length (drop next slots) = omega arith in
      ap (λ b. turned_by next (slice_set slots (cond b (next + later) (later - (length slots - next))) x)) is
      ∙ ap (λ (ys : List (List A)). ys ++ take next (slice_set slots (next + later) x)) (drop-set-add next slots later x)
      ∙ ap (λ (ys : List (List A)). slice_set (drop next slots) later x ++ ys) (take-set-le next slots (next + later) x (omega arith))
      ∙ sym (set-append_left (drop next slots) (take next slots) later x front)
  set_when later x false is fits =
      let long = front_length in
      let beyond : length slots - next ≤ later = grind (arith, nat_tests) in
      let place = later - (length slots - next) in
      let early : later - (length slots - next) < next = omega arith in
      ap (λ b. turned_by next (slice_set slots (cond b (next + later) (later - (length slots - next))) x)) is
      ∙ ap (λ (ys : List (List A)). ys ++ take next (slice_set slots place x)) (drop-set-lt next slots place x early)
      ∙ ap (λ (ys : List (List A)). drop next slots ++ ys) (take_set next place slots x)
      ∙ sym (set-append_right (drop next slots) (take next slots) (length slots - next) later x long beyond)

  slot_when : (later : ℕ) (low : Bool) → nat_lt later (length slots - next) ≡ low → later < length slots →
      slice_index_or slots (place_after next later (length slots)) [] ≡ slice_index_or (turned_by next slots) later []
  slot_when later true is fits =
      let long = front_length in
      let inside : later < length slots - next = grind (arith, nat_tests) in
      let front : later < length (drop next slots) = omega arith in
      ap (λ b. slice_index_or slots (cond b (next + later) (later - (length slots - next))) []) is
      ∙ sym (get_or-drop next slots later [])
      ∙ sym (get_or_append_left (drop next slots) (take next slots) [] later front)
  slot_when later false is fits =
      let long = front_length in
      let beyond : length slots - next ≤ later = grind (arith, nat_tests) in
      let early : later - (length slots - next) < next = omega arith in
      ap (λ b. slice_index_or slots (cond b (next + later) (later - (length slots - next))) []) is
      ∙ sym (get_or-take next slots (later - (length slots - next)) [] early)
      ∙ sym (get_or-append_right (drop next slots) (take next slots) (length slots - next) later [] long beyond)

  -- what a slot has
  pub turned_slot : (later : ℕ) → later < length slots → slice_index_or slots (place_after next later (length slots)) [] ≡ slice_index_or (turned_by next slots) later []
  turned_slot later fits = slot_when later (nat_lt later (length slots - next)) refl fits

  -- another slot in its place
  pub turned_set : (later place : ℕ) (x : List A) → place ≡ place_after next later (length slots) → later < length slots →
      turned_by next (slice_set slots place x) ≡ slice_set (turned_by next slots) later x
  turned_set later place x is fits = ap (λ k. turned_by next (slice_set slots k x)) is ∙ set_when later x (nat_lt later (length slots - next)) refl fits

  -- one more entry in a slot
  pub turned_entry : (later place : ℕ) (entry : A) → place ≡ place_after next later (length slots) → later < length slots →
      turned_by next (with_entry slots place entry) ≡ with_entry (turned_by next slots) later entry
  turned_entry later place entry is fits =
      ap (λ k. turned_by next (slice_set slots k (slice_index_or slots k [] ++ entry ∷ []))) is
      ∙ set_when later (slice_index_or slots (place_after next later (length slots)) [] ++ entry ∷ []) (nat_lt later (length slots - next)) refl fits
      ∙ ap (λ (slot : List A). slice_set (turned_by next slots) later (slot ++ entry ∷ [])) (slot_when later (nat_lt later (length slots - next)) refl fits)

  rest_is : drop 1 (turned_by next slots) ≡ drop (next + 1) slots ++ take next slots
  rest_is =
      let long = front_length in
      let some : 1 ≤ length (drop next slots) = omega arith in
      drop-append-le 1 (drop next slots) (take next slots) some ∙ ap (λ (ys : List (List A)). ys ++ take next slots) (drop-drop 1 next slots)

  step_when : (x : List A) (low : Bool) → nat_lt 1 (length slots - next) ≡ low →
      turned_by (place_after next 1 (length slots)) (slice_set slots next x) ≡ drop 1 (turned_by next slots) ++ x ∷ []
  step_when x true is =
      ap (λ b. turned_by (cond b (next + 1) (1 - (length slots - next))) (slice_set slots next x)) is
      ∙ ap (λ (ys : List (List A)). ys ++ take (next + 1) (slice_set slots next x)) (drop-set-lt (next + 1) slots next x (omega arith))
      ∙ ap (λ (ys : List (List A)). drop (next + 1) slots ++ ys) (take_more_set slots next x within)
      ∙ sym (append_assoc (drop (next + 1) slots) (take next slots) (x ∷ []))
      ∙ ap (λ (ys : List (List A)). ys ++ x ∷ []) (sym rest_is)
  step_when x false is =
      let last : length slots - next ≤ 1 = grind (arith, nat_tests) in
      let none : 1 - (length slots - next) ≡ 0 = omega arith in
      let over : length slots ≤ suc next = omega arith in
      let past : length slots ≤ next + 1 = omega arith in
      ap (λ b. turned_by (cond b (next + 1) (1 - (length slots - next))) (slice_set slots next x)) is
      ∙ ap (λ k. turned_by k (slice_set slots next x)) none
      ∙ append-nil (slice_set slots next x)
      ∙ set_split slots next x within
      ∙ ap (λ (ys : List (List A)). take next slots ++ x ∷ ys) (drop_all (suc next) slots over)
      ∙ ap (λ (ys : List (List A)). (ys ++ take next slots) ++ x ∷ []) (sym (drop_all (next + 1) slots past))
      ∙ ap (λ (ys : List (List A)). ys ++ x ∷ []) (sym rest_is)

  -- the first slot becomes the last, and is another
  pub turned_step : (place : ℕ) (x : List A) → place ≡ place_after next 1 (length slots) →
      turned_by place (slice_set slots next x) ≡ drop 1 (turned_by next slots) ++ x ∷ []
  turned_step place x is = ap (λ k. turned_by k (slice_set slots next x)) is ∙ step_when x (nat_lt 1 (length slots - next)) refl
