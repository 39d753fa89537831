-- The union of all closed sets is closed, and has each closed set.
use Rattle.std.proofs.Common.{◌≡◌, ℕ, ◌+◌, ◌<◌, ◌≤◌, ◌==◌, ◌&&◌, ◌||◌, ◌⊎◌, inl, inr, Bool, true, false, cond, List, [], ◌∷◌, map, filter, zero, suc, refl, ap, sym, subst, ◌∙◌, eq-eqb, arith}
use Rattle.std.specs.List.{list_all, list_any, range_with_len}
use Rattle.std.proofs.lemmas.Bool.{cases_Bool, cases_lt, eqb-true, and_parts}
use Rattle.std.proofs.lemmas.List.Folds.{list_any-append}
use Rattle.mp_holding.specs.sets.ClosedSets.{is_in, subsets, is_closed, in_closed_set}
use Rattle.mp_holding.specs.sets.Laws.{IsWithin, UnionIsClosed, HasClosedSets}

-- ---- tests

pub true_false : (b : Bool) → b ≡ true → b ≡ false → ⊥
true_false b is not_so = let no : true ≡ false = sym is ∙ not_so in cc

pub and_true : (a b : Bool) → a ≡ true → b ≡ true → (a && b) ≡ true
and_true a b first second = ap (λ x. x && b) first ∙ second

pub or_first : (a b : Bool) → a ≡ true → (a || b) ≡ true
or_first a b first = ap (λ x. x || b) first

pub or_second : (a b : Bool) → b ≡ true → (a || b) ≡ true
or_second true b second = refl
or_second false b second = second

pub or_cases : (a b : Bool) → (a || b) ≡ true → (a ≡ true) ⊎ (b ≡ true)
or_cases true b is = inl refl
or_cases false b is = inr is

pub same_test : (a b : Bool) → (a ≡ true → b ≡ true) → (b ≡ true → a ≡ true) → a ≡ b
same_test true b to from = sym (to refl)
same_test false true to from = from refl
same_test false false to from = refl

-- ---- elements

-- an element: a test that it passes finds one
abbrev Among : {A : Type 0} → List A → A → Type 0
Among xs x = (test : _ → Bool) → test x ≡ true → list_any test xs ≡ true

found : {A : Type 0} (test : A → Bool) (xs : List A) → list_any test xs ≡ true → (x : A) × Among xs x × (test x ≡ true)
found test [] is = let no : ⊥ = true_false false is refl in absurd no
found test (x ∷ xs) is = by (cases_Bool (test x)) (found test xs)
  where
    by : (test x ≡ true) ⊎ (test x ≡ false) → (list_any test xs ≡ true → (y : _) × Among xs y × (test y ≡ true)) → (y : _) × Among (x ∷ xs) y × (test y ≡ true)
    by (inl here) later = (x, (λ other so. or_first (other x) (list_any other xs) so), here)
    by (inr past) later =
        let rest = later (sym (ap (λ b. b || list_any test xs) past) ∙ is) in
        (rest.0, (λ other so. or_second (other x) (list_any other xs) (rest.1 other so)), rest.2)

pub all_at : (test : ℕ → Bool) (set : List ℕ) (k : ℕ) → list_all test set ≡ true → is_in set k ≡ true → test k ≡ true
all_at test [] k all at = absurd (true_false false at refl)
all_at test (j ∷ set) k all at = by (or_cases (j == k) (is_in set k) at) (and_parts (test j) (list_all test set) all) (all_at test set k)
  where
    by : ((j == k) ≡ true) ⊎ (is_in set k ≡ true) → (test j ≡ true) × (list_all test set ≡ true) → (list_all test set ≡ true → is_in set k ≡ true → test k ≡ true) → test k ≡ true
    by (inl same) parts later = subst (λ i. test i ≡ true) (eqb-true j k same) parts.0
    by (inr past) parts later = later parts.1 past

pub is_first : (k : ℕ) (set : List ℕ) → is_in (k ∷ set) k ≡ true
is_first k set = or_first (k == k) (is_in set k) (eq-eqb k k refl)

pub all_of : (test : ℕ → Bool) (set : List ℕ) → ((k : ℕ) → is_in set k ≡ true → test k ≡ true) → list_all test set ≡ true
all_of test [] each = refl
all_of test (j ∷ set) each =
    and_true (test j) (list_all test set) (each j (is_first j set)) (all_of test set (λ k at. each k (or_second (j == k) (is_in set k) at)))

pub in_range : (from count k : ℕ) → from ≤ k → k < from + count → is_in (range_with_len from count) k ≡ true
in_range from zero k low high = absurd (omega (arith, low, high))
in_range from (suc count) k low high = by (cases_lt from k) (λ past. in_range (from + 1) count k (omega (arith, past)) (omega (arith, high)))
  where
    by : (from < k) ⊎ (k ≤ from) → (from < k → is_in (range_with_len (from + 1) count) k ≡ true) → is_in (range_with_len from (suc count)) k ≡ true
    by (inl past) later = or_second (from == k) (is_in (range_with_len (from + 1) count) k) (later past)
    by (inr here) later = or_first (from == k) (is_in (range_with_len (from + 1) count) k) (eq-eqb from k (omega (arith, low, here)))

pub in_filter : (test : ℕ → Bool) (xs : List ℕ) (k : ℕ) → test k ≡ true → is_in xs k ≡ true → is_in (filter test xs) k ≡ true
in_filter test [] k is at = at
in_filter test (x ∷ xs) k is at = by (test x) refl (or_cases (x == k) (is_in xs k) at) (in_filter test xs k is)
  where
    by : (b : Bool) → test x ≡ b → ((x == k) ≡ true) ⊎ (is_in xs k ≡ true) → (is_in xs k ≡ true → is_in (filter test xs) k ≡ true) → is_in (cond b (x ∷ filter test xs) (filter test xs)) k ≡ true
    by true so (inl here) later = or_first (x == k) (is_in (filter test xs) k) here
    by true so (inr past) later = or_second (x == k) (is_in (filter test xs) k) (later past)
    by false so (inl here) later = absurd (true_false (test x) (subst (λ i. test i ≡ true) (sym (eqb-true x k here)) is) so)
    by false so (inr past) later = later past

pub of_filter : (test : ℕ → Bool) (xs : List ℕ) (k : ℕ) → is_in (filter test xs) k ≡ true → test k ≡ true
of_filter test [] k at = absurd (true_false false at refl)
of_filter test (x ∷ xs) k at = by (test x) refl at (of_filter test xs k)
  where
    here : test x ≡ true → ((x == k) ≡ true) ⊎ (is_in (filter test xs) k ≡ true) → (is_in (filter test xs) k ≡ true → test k ≡ true) → test k ≡ true
    here so (inl same) later = subst (λ i. test i ≡ true) (eqb-true x k same) so
    here so (inr past) later = later past

    by : (b : Bool) → test x ≡ b → is_in (cond b (x ∷ filter test xs) (filter test xs)) k ≡ true → (is_in (filter test xs) k ≡ true → test k ≡ true) → test k ≡ true
    by true so at later = here so (or_cases (x == k) (is_in (filter test xs) k) at) later
    by false so at later = later at

any_map : (k : ℕ) (test : List ℕ → Bool) (xs : List (List ℕ)) → list_any test (map (λ set. k ∷ set) xs) ≡ list_any (λ set. test (k ∷ set)) xs
any_map k test [] = refl
any_map k test (x ∷ xs) = ap (λ b. test (k ∷ x) || b) (any_map k test xs)

among_subsets : (keep : ℕ → Bool) (xs : List ℕ) (test : List ℕ → Bool) → test (filter keep xs) ≡ true → list_any test (subsets xs) ≡ true
among_subsets keep [] test so = or_first (test []) false so
among_subsets keep (x ∷ xs) test so = list_any-append test (subsets xs) (map (λ set. x ∷ set) (subsets xs)) ∙ by (keep x) so (among_subsets keep xs)
  where
    by : (b : Bool) → test (cond b (x ∷ filter keep xs) (filter keep xs)) ≡ true → ((other : List ℕ → Bool) → other (filter keep xs) ≡ true → list_any other (subsets xs) ≡ true)
        → (list_any test (subsets xs) || list_any test (map (λ set. x ∷ set) (subsets xs))) ≡ true
    by true so later =
        or_second (list_any test (subsets xs)) (list_any test (map (λ set. x ∷ set) (subsets xs)))
        (any_map x test (subsets xs) ∙ later (λ set. test (x ∷ set)) so)
    by false so later = or_first (list_any test (subsets xs)) (list_any test (map (λ set. x ∷ set) (subsets xs))) (later test so)

-- ---- closed sets

module _ (keeps : (ℕ → Bool) → ℕ → Bool) (count : ℕ) where
  pub record HasSet (k : ℕ) : Type 0 where
    pub set : List ℕ
    pub closed : is_closed keeps set ≡ true
    pub at : is_in set k ≡ true
    pub all : IsWithin (is_in set) (in_closed_set keeps count)

  pub set_of : (k : ℕ) → in_closed_set keeps count k ≡ true → HasSet k
  unfolding in_closed_set
  set_of k is =
      let one = found (λ set. is_closed keeps set && is_in set k) (subsets (range_with_len 0 count)) is in
      let set = one.0 in
      let parts = and_parts (is_closed keeps set) (is_in set k) one.2 in
      record {
        set = set;
        closed = parts.0;
        at = parts.1;
        all = λ j at. one.1 (λ other. is_closed keeps other && is_in other j) (and_true (is_closed keeps set) (is_in set j) parts.0 at);
      }

  -- a closed set that is given as a test
  pub has_test : (members : ℕ → Bool) → ((k : ℕ) → members k ≡ true → k < count) → ((set other : ℕ → Bool) → IsWithin set other → IsWithin (keeps set) (keeps other))
      → IsWithin members (keeps members) → IsWithin members (in_closed_set keeps count)
  unfolding in_closed_set
  has_test members low grows kept k at =
      let range = range_with_len 0 count in
      let set = filter members range in
      let same : (j : ℕ) → members j ≡ true → is_in set j ≡ true = λ j so. in_filter members range j so (in_range 0 count j (omega arith) (let below = low j so in omega (arith, below))) in
      let closed : is_closed keeps set ≡ true = all_of (keeps (is_in set)) set (λ j in_set. grows members (is_in set) same j (kept j (of_filter members range j in_set))) in
      among_subsets members range (λ other. is_closed keeps other && is_in other k) (and_true (is_closed keeps set) (is_in set k) closed (same k at))

pub union_is_closed : UnionIsClosed
union_is_closed keeps count grows k is =
    let one = set_of keeps count k is in
    grows (is_in one.set) (in_closed_set keeps count) one.all k (all_at (keeps (is_in one.set)) one.set k one.closed one.at)

pub has_closed_sets : HasClosedSets
has_closed_sets keeps count grows set low closed =
    has_test keeps count (is_in set) low grows (λ k at. all_at (keeps (is_in set)) set k closed at)
