-- Slots without the empty ones, and where a name is found among them.
use Rattle.mp_text.proofs.Names.{◌≡◌, ◌<◌, ◌≤◌, ◌∷◌, ◌++◌, ℕ, suc, false, List, [], length, get_or, take, drop, All, Option, Some, None, is_some, refl, sym, ap, subst, ◌∙◌, arith, flat_map, bytes_eq, append-nil, get_or_at, get_or_append_left, set-get_or, set_split, flat_map-append, All-cons, All-nil, All-head, All-tail, All-append, All-weaker, All-from_get_or, false_from_ne_true, same_name, equal_name, slot_within, slot_at, has_name, number_named, nat_tests, first_none, position-append}
use Rattle.std.proofs.lemmas.Iterator.Adapters.{position_from-zero}

-- a thing that stands, changed, and nothing where none does
abbrev pub compact : {R : Type 0} → (R → R) → Option R → List (Option R)
compact change None = []
compact change (Some r) = Some (change r) ∷ []

-- what holds of each element of lists end to end holds of the elements of each
pub All-flat_map : {X Y : Type 0} (P : Y → Type 0) (f : X → List Y) (xs : List X) → All (λ x. All P (f x)) xs → All P (flat_map f xs)
All-flat_map P f [] all = All-nil P
All-flat_map P f (x ∷ xs) all = All-append P (f x) (flat_map f xs) (All-head (λ x. All P (f x)) x xs all) (All-flat_map P f xs (All-tail (λ x. All P (f x)) x xs all))

All-parts : {Y : Type 0} (P : Y → Type 0) (xs ys : List Y) → All P (xs ++ ys) → All P xs × All P ys
All-parts P [] ys all = grind (arith, nat_tests, All-nil)
All-parts P (x ∷ xs) ys all = grind (arith, nat_tests, All-tail, All-cons, All-head, (All-parts P xs ys (All-tail P x (xs ++ ys) all)))

pub All-from_flat_map : {X Y : Type 0} (P : Y → Type 0) (f : X → List Y) (xs : List X) → All P (flat_map f xs) → All (λ x. All P (f x)) xs
All-from_flat_map P f [] all = All-nil (λ x. All P (f x))
All-from_flat_map P f (x ∷ xs) all =
    let parts = All-parts P (f x) (flat_map f xs) all in
    All-cons (λ x. All P (f x)) x xs parts.0 (All-from_flat_map P f xs parts.1)

-- a place in a list parts it
pub parted : {R : Type 0} (slots : List (Option R)) (w : ℕ) (r : R) → slot_at slots w ≡ Some r → slots ≡ take w slots ++ Some r ∷ drop (suc w) slots
parted slots w r at =
    grind (arith, at, (set-get_or slots w None), (set_split slots w (get_or slots w None) (slot_within slots w (ap is_some at))))

pub compact-none : {R : Type 0} (change : R → R) (front : List (Option R)) → flat_map (compact change) (front ++ None ∷ []) ≡ flat_map (compact change) front
compact-none change front = flat_map-append (compact change) front (None ∷ []) ∙ append-nil (flat_map (compact change) front)

pub length-compact : {R : Type 0} (f g : R → R) (slots : List (Option R)) → length (flat_map (compact f) slots) ≡ length (flat_map (compact g) slots)
length-compact f g [] = refl
length-compact f g (x ∷ slots) = grind (arith, nat_tests, (length-compact f g slots))

pub compact_few : {R : Type 0} (f : R → R) (slots : List (Option R)) → length (flat_map (compact f) slots) ≤ length slots
compact_few f [] = grind (arith, nat_tests)
compact_few f (x ∷ slots) = grind (arith, nat_tests, (compact_few f slots))

pub unequal_name : (a b : List ℕ) → (a ≡ b → ⊥) → bytes_eq a b ≡ false
unequal_name a b other = false_from_ne_true (bytes_eq a b) (λ same. other (same_name a b same))

module _ {R : Type 0} (name_of : R → List ℕ) where
  -- what stands in the slot, if anything, has another name
  abbrev pub Unnamed : List ℕ → Option R → Type 0
  Unnamed q slot = has_name name_of q slot ≡ false

  pub named_nowhere : (q : List ℕ) (slots : List (Option R)) → All (Unnamed q) slots → number_named name_of slots q ≡ None
  unfolding number_named
  named_nowhere q slots all =
      grind (arith, nat_tests, (first_none (has_name name_of q) slots all), (position_from-zero (has_name name_of q) slots))

  -- a name finds a thing at a place
  pub record IsAt (slots : List (Option R)) (q : List ℕ) (thing : R) : Type 0 where
    pub place : ℕ
    pub named : number_named name_of slots q ≡ Some place
    pub at : slot_at slots place ≡ Some thing

  -- a name that nothing in front has finds the thing behind
  pub named_behind : (front back : List (Option R)) (thing : R) (q : List ℕ) → All (Unnamed q) front → name_of thing ≡ q → number_named name_of (front ++ Some thing ∷ back) q ≡ Some (length front)
  unfolding number_named
  named_behind front back thing q all is =
      sym (position_from-zero (has_name name_of q) (front ++ Some thing ∷ back)) ∙ position-append (has_name name_of q) (Some thing) back (equal_name q (name_of thing) (sym is)) front all

  -- other things have other names
  abbrev pub AreDistinct : List (Option R) → Type 0
  AreDistinct slots = (w v : ℕ) (r s : R) → slot_at slots w ≡ Some r → slot_at slots v ≡ Some s → name_of r ≡ name_of s → w ≡ v

  pub front_unnamed : (slots front back : List (Option R)) (r : R) → AreDistinct slots → slots ≡ front ++ Some r ∷ back → All (Unnamed (name_of r)) front
  front_unnamed slots front back r distinct same = All-from_get_or (Unnamed (name_of r)) front None (λ k within. by k within (get_or front k None) refl)
    where
      by : (k : ℕ) → k < length front → (slot : Option R) → get_or front k None ≡ slot → Unnamed (name_of r) slot
      by k within None at = refl
      by k within (Some s) at =
          unequal_name (name_of r) (name_of s) (λ e.
          let here = ap (λ xs. get_or xs (length front) None) same ∙ get_or_at front (Some r) back None (length front) refl in
          let there = ap (λ xs. get_or xs k None) same ∙ get_or_append_left front (Some r ∷ back) None k within ∙ at in
          let place : length front ≡ k = distinct (length front) k r s here there e in
          omega arith)

  module _ (change : R → R) (kept : (r : R) → name_of (change r) ≡ name_of r) where
    pub compact_unnamed : (q : List ℕ) (slots : List (Option R)) → All (Unnamed q) slots → All (Unnamed q) (flat_map (compact change) slots)
    compact_unnamed q slots all =
        All-flat_map (Unnamed q) (compact change) slots (All-weaker (Unnamed q) (λ slot. All (Unnamed q) (compact change slot)) (λ slot none. grind (arith, nat_tests, All-nil, All-cons)) slots all)

    -- each name finds its thing, changed, among those that stand
    pub IsAt-compact : (slots : List (Option R)) → AreDistinct slots → (w : ℕ) (r : R) → slot_at slots w ≡ Some r → IsAt (flat_map (compact change) slots) (name_of r) (change r)
    IsAt-compact slots distinct w r at =
        let front = take w slots in
        let back = drop (suc w) slots in
        let same = parted slots w r at in
        let before = flat_map (compact change) front in
        let behind = flat_map (compact change) back in
        let all = compact_unnamed (name_of r) front (front_unnamed slots front back r distinct same) in
        subst (λ xs. IsAt xs (name_of r) (change r)) (sym (ap (flat_map (compact change)) same ∙ flat_map-append (compact change) front (Some r ∷ back)))
        (record { place = length before; named = named_behind before behind (change r) (name_of r) all (kept r); at = get_or_at before (Some (change r)) behind None (length before) refl })
