-- Lists of wires, their numbers, and the sets among them.
use Rattle.std.proofs.Common.{◌≡◌, ℕ, ◌+◌, ◌<◌, ◌≤◌, ◌==◌, ◌&&◌, ◌||◌, ◌⊎◌, inl, inr, Bool, true, false, not, cond, List, [], ◌∷◌, ◌++◌, length, map, max, filter, take, get_or, fold, Contains, zero, suc, refl, ap, sym, subst, ◌∙◌, nat_le, append-nil, arith}
use Rattle.std.specs.List.{list_all, range_with_len}
use Rattle.std.proofs.lemmas.Bool.{cases_Bool, cases_lt, and_parts, and_from, eq-eqb, eqb-true, false_from_ne_true, le-leb, lt-leb, true≢false}
use Rattle.std.proofs.lemmas.List.{get_or-map, length-map, map_more, map_push}
use Rattle.std.proofs.lemmas.List.Elements.{filter-append}
use Rattle.std.proofs.lemmas.List.Folds.{list_all-append, list_all-map, list_any_at}
use Rattle.std.proofs.lemmas.List.Sums.{fold_push}
use Rattle.mp_records.specs.declared.ids.WireId.{WireId}
use Rattle.mp_model.proofs.MemberLemmas.{any_passes, passes_any, contains_filter, filter_contains}
use Rattle.mp_steady.specs.Periods.{greatest}
use Rattle.mp_steady.specs.WireSets.{has_wire, numbers, subsets}

-- ---- tests of all

-- what passes one test passes another
pub all_weaker : {X : Type 0} (p q : X → Bool) (xs : List X) → ((x : X) → p x ≡ true → q x ≡ true) → list_all p xs ≡ true → list_all q xs ≡ true
all_weaker p q [] less all = refl
all_weaker p q (x ∷ xs) less all = let parts = and_parts (p x) (list_all p xs) all in and_from (q x) (list_all q xs) (less x parts.0) (all_weaker p q xs less parts.1)

-- what is kept for a test passes another
pub kept_all : {X : Type 0} (p q : X → Bool) (xs : List X) → ((x : X) → p x ≡ true → q x ≡ true) → list_all q (filter p xs) ≡ true
kept_all p q [] less = refl
kept_all p q (x ∷ xs) less = by (cases_Bool (p x)) (kept_all p q xs less)
  where
    by : ((p x ≡ true) ⊎ (p x ≡ false)) → list_all q (filter p xs) ≡ true → list_all q (filter p (x ∷ xs)) ≡ true
    by (inl keeps) rest = rw keeps (and_from (q x) (list_all q (filter p xs)) (less x keeps) rest)
    by (inr drops) rest = rw drops rest

-- what is kept of those that all pass a test passes it
pub kept_still : {X : Type 0} (p q : X → Bool) (xs : List X) → list_all q xs ≡ true → list_all q (filter p xs) ≡ true
kept_still p q [] all = refl
kept_still p q (x ∷ xs) all = by (cases_Bool (p x)) (and_parts (q x) (list_all q xs) all) (kept_still p q xs)
  where
    by : ((p x ≡ true) ⊎ (p x ≡ false)) → (q x ≡ true) × (list_all q xs ≡ true) → (list_all q xs ≡ true → list_all q (filter p xs) ≡ true) → list_all q (filter p (x ∷ xs)) ≡ true
    by (inl keeps) parts rest = rw keeps (and_from (q x) (list_all q (filter p xs)) parts.0 (rest parts.1))
    by (inr drops) parts rest = rw drops (rest parts.1)

-- a test of what is kept for another, as one test of all
all_kept : {X : Type 0} (p q : X → Bool) (xs : List X) → list_all q (filter p xs) ≡ true → list_all (λ x. not (p x) || q x) xs ≡ true
all_kept p q [] all = refl
all_kept p q (x ∷ xs) all = by (cases_Bool (p x)) all (all_kept p q xs)
  where
    by : ((p x ≡ true) ⊎ (p x ≡ false)) → list_all q (filter p (x ∷ xs)) ≡ true → (list_all q (filter p xs) ≡ true → list_all (λ y. not (p y) || q y) xs ≡ true) → list_all (λ y. not (p y) || q y) (x ∷ xs) ≡ true
    by (inl keeps) all rest =
        let whole : list_all q (x ∷ filter p xs) ≡ true = sym (ap (λ b. list_all q (cond b (x ∷ filter p xs) (filter p xs))) keeps) ∙ all in
        let parts = and_parts (q x) (list_all q (filter p xs)) whole in
        rw (keeps, parts.0) (rest parts.1)
    by (inr drops) all rest =
        let whole : list_all q (filter p xs) ≡ true = sym (ap (λ b. list_all q (cond b (x ∷ filter p xs) (filter p xs))) drops) ∙ all in
        rw drops (rest whole)

-- a second test that all pass that pass the first changes nothing
pub kept_twice : {X : Type 0} (p q : X → Bool) (xs : List X) → ((x : X) → p x ≡ true → q x ≡ true) → filter p (filter q xs) ≡ filter p xs
kept_twice p q [] less = refl
kept_twice p q (x ∷ xs) less = by (cases_Bool (p x)) (cases_Bool (q x)) (kept_twice p q xs less)
  where
    by : ((p x ≡ true) ⊎ (p x ≡ false)) → ((q x ≡ true) ⊎ (q x ≡ false)) → filter p (filter q xs) ≡ filter p xs → filter p (filter q (x ∷ xs)) ≡ filter p (x ∷ xs)
    by (inl keeps) (inl other) rest = rw (other, keeps) (ap (λ ys. x ∷ ys) rest)
    by (inl keeps) (inr other) rest = absurd (true≢false (sym (less x keeps) ∙ other))
    by (inr drops) (inl other) rest = rw (other, drops) rest
    by (inr drops) (inr other) rest = rw (other, drops) rest

-- ---- wires of a list

pub in_wires : (wires : List ℕ) (w : ℕ) → Contains wires w → has_wire wires w ≡ true
in_wires wires w in' = any_passes (λ v. v == w) w wires in' (eq-eqb w w refl)

pub wire_in : (wires : List ℕ) (w : ℕ) → has_wire wires w ≡ true → Contains wires w
wire_in wires w has = let found = passes_any (λ v. v == w) wires has in subst (Contains wires) (eqb-true found.0 w found.2) found.1

pub in_kept : (p : ℕ → Bool) (wires : List ℕ) (w : ℕ) → has_wire wires w ≡ true → p w ≡ true → has_wire (filter p wires) w ≡ true
in_kept p wires w has keeps = in_wires (filter p wires) w (contains_filter p w wires (wire_in wires w has) keeps)

pub kept_passes : (p : ℕ → Bool) (wires : List ℕ) (w : ℕ) → has_wire (filter p wires) w ≡ true → p w ≡ true
kept_passes p wires w has = filter_contains p w wires (wire_in (filter p wires) w has)

-- the number at a place
pub has_at : (wires : List WireId) (i : ℕ) (d : WireId) → i < length wires → has_wire (numbers wires) (get_or wires i d).0 ≡ true
has_at wires i d low =
    list_any_at (λ v. v == (get_or wires i d).0) (numbers wires) i 0 (omega (arith, length-map wires (λ (w : WireId). w.0), low))
    (eq-eqb (get_or (numbers wires) i 0) (get_or wires i d).0 (get_or-map (λ (w : WireId). w.0) wires i d 0 low))

-- ---- subsets

-- what all subsets pass, what is kept of the list passes
subset_passes : (p : List ℕ → Bool) (keep : ℕ → Bool) (xs : List ℕ) → list_all p (subsets xs) ≡ true → p (filter keep xs) ≡ true
subset_passes p keep [] all = (and_parts (p []) true all).0
subset_passes p keep (x ∷ xs) all = by (cases_Bool (keep x)) (subset_passes p keep xs parts.0) (subset_passes (λ ys. p (x ∷ ys)) keep xs with_it)
  where
    parts : (list_all p (subsets xs) ≡ true) × (list_all p (map (λ ys. x ∷ ys) (subsets xs)) ≡ true)
    parts = and_parts (list_all p (subsets xs)) (list_all p (map (λ ys. x ∷ ys) (subsets xs))) (sym (list_all-append p (subsets xs) (map (λ ys. x ∷ ys) (subsets xs))) ∙ all)

    with_it : list_all (λ ys. p (x ∷ ys)) (subsets xs) ≡ true
    with_it = sym (list_all-map p (λ ys. x ∷ ys) (subsets xs)) ∙ parts.1

    by : ((keep x ≡ true) ⊎ (keep x ≡ false)) → p (filter keep xs) ≡ true → p (x ∷ filter keep xs) ≡ true → p (filter keep (x ∷ xs)) ≡ true
    by (inl keeps) without got = rw keeps got
    by (inr drops) without got = rw drops without

-- of the subsets that are kept one that doesn't pass
pub subset_fails : (q p : List ℕ → Bool) (keep : ℕ → Bool) (xs : List ℕ) → q (filter keep xs) ≡ true → p (filter keep xs) ≡ false → list_all p (filter q (subsets xs)) ≡ false
subset_fails q p keep xs is fails = false_from_ne_true (list_all p (filter q (subsets xs))) (λ all.
    (let passes : (not (q (filter keep xs)) || p (filter keep xs)) ≡ true = subset_passes (λ ys. not (q ys) || p ys) keep xs (all_kept q p (subsets xs) all) in
    true≢false (sym passes ∙ ap (λ b. not b || p (filter keep xs)) is ∙ fails)))

-- ---- one more

pub range_more : (a n : ℕ) → range_with_len a (n + 1) ≡ range_with_len a n ++ (a + n) ∷ []
range_more a zero = grind arith
range_more a (suc n) = grind (arith, (range_more (a + 1) n))

pub kept_more : (p : ℕ → Bool) (n : ℕ) → filter p (range_with_len 0 (n + 1)) ≡ filter p (range_with_len 0 n) ++ cond (p n) (n ∷ []) []
kept_more p n =
    let zero_less : 0 + n ≡ n = omega arith in
    ap (filter p) (range_more 0 n ∙ ap (λ k. range_with_len 0 n ++ k ∷ []) zero_less) ∙ filter-append p (range_with_len 0 n) (n ∷ [])

-- numbers of which the next is kept
pub kept_one : (p : ℕ → Bool) (n : ℕ) (old new : List WireId) → p n ≡ true → numbers old ≡ filter p (range_with_len 0 n) → new ≡ old ++ (record { 0 = n }) ∷ [] → numbers new ≡ filter p (range_with_len 0 (n + 1))
kept_one p n old new keeps were is =
    ap numbers is ∙ map_push (λ (w : WireId). w.0) old (record { 0 = n }) ∙ ap (λ ws. ws ++ n ∷ []) were
    ∙ sym (kept_more p n ∙ ap (λ b. filter p (range_with_len 0 n) ++ cond b (n ∷ []) []) keeps)

-- and of which it isn't
pub kept_none : (p : ℕ → Bool) (n : ℕ) (old : List WireId) → p n ≡ false → numbers old ≡ filter p (range_with_len 0 n) → numbers old ≡ filter p (range_with_len 0 (n + 1))
kept_none p n old drops were =
    were ∙ sym (kept_more p n ∙ ap (λ b. filter p (range_with_len 0 n) ++ cond b (n ∷ []) []) drops ∙ append-nil (filter p (range_with_len 0 n)))

pub greatest_push : (f : ℕ → ℕ) (wires : List ℕ) (w : ℕ) → greatest f (wires ++ w ∷ []) ≡ max (greatest f wires) (f w)
greatest_push f wires w = ap (fold max 0) (map_push f wires w) ∙ fold_push max 0 (map f wires) (f w)

pub numbers_more : (wires : List WireId) (i : ℕ) (d : WireId) → i < length wires → numbers (take (i + 1) wires) ≡ numbers (take i wires) ++ (get_or wires i d).0 ∷ []
numbers_more wires i d within = map_more (λ (w : WireId). w.0) wires i d within

pub greatest_more : (f : ℕ → ℕ) (wires : List WireId) (i : ℕ) (d : WireId) → i < length wires → greatest f (numbers (take (i + 1) wires)) ≡ max (greatest f (numbers (take i wires))) (f (get_or wires i d).0)
greatest_more f wires i d within = ap (greatest f) (numbers_more wires i d within) ∙ greatest_push f (numbers (take i wires)) (get_or wires i d).0

-- ---- the greatest against a bound

below_and : (a b most : ℕ) (rest : Bool) → (nat_le (max a b) most && rest) ≡ (nat_le a most && (nat_le b most && rest))
below_and a b most rest = by (cases_lt most a) (cases_lt most b)
  where
    by : (most < a) ⊎ (a ≤ most) → (most < b) ⊎ (b ≤ most) → (nat_le (max a b) most && rest) ≡ (nat_le a most && (nat_le b most && rest))
    by (inl high) other = rw (lt-leb a most high, lt-leb (max a b) most (omega (arith, high))) refl
    by (inr low) (inl high) = rw (le-leb a most low, lt-leb b most high, lt-leb (max a b) most (omega (arith, high))) refl
    by (inr low) (inr small) = rw (le-leb a most low, le-leb b most small, le-leb (max a b) most (omega (arith, low, small))) refl

fold_within : (f : ℕ → ℕ) (wires : List ℕ) (a most : ℕ) → nat_le (fold max a (map f wires)) most ≡ (nat_le a most && list_all (λ w. nat_le (f w) most) wires)
fold_within f [] a most = by (nat_le a most)
  where
    by : (b : Bool) → b ≡ (b && true)
    by true = refl
    by false = refl
fold_within f (w ∷ ws) a most = fold_within f ws (max a (f w)) most ∙ below_and a (f w) most (list_all (λ v. nat_le (f v) most) ws)

-- the greatest is within a bound if each one is
pub greatest_within : (f : ℕ → ℕ) (wires : List ℕ) (most : ℕ) → nat_le (greatest f wires) most ≡ list_all (λ w. nat_le (f w) most) wires
greatest_within f wires most = fold_within f wires 0 most ∙ ap (λ b. b && list_all (λ w. nat_le (f w) most) wires) (le-leb 0 most (omega arith))

-- of one number more, where the greater of two is found
pub greatest_one_more : (f : ℕ → ℕ) (wires : List ℕ) (w was one now : ℕ) → was ≡ greatest f wires → one ≡ f w → now ≡ max was one → now ≡ greatest f (wires ++ w ∷ [])
greatest_one_more f wires w was one now before here is = is ∙ ap (λ a. max a one) before ∙ ap (max (greatest f wires)) here ∙ sym (greatest_push f wires w)
