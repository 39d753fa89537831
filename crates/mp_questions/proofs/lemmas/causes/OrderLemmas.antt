-- Shares by their units: what comes of placing one after the other, and that no other list has the same shares in that order.
use Rattle.std.proofs.Common.{◌≡◌, ◌⊎◌, ℕ, ◌+◌, ◌<◌, ◌≤◌, ◌==◌, Bool, true, false, cond, List, [], ◌∷◌, length, get_or, map, filter, nat_lt, zero, suc, refl, ap, sym, subst, ◌∙◌, arith, inl, inr}
use Rattle.std.specs.List.{sum_by, AllByRecursion, range_with_len}
use Rattle.std.specs.List.Sorted.{IsPermutation, IsSortedByKey}
use Rattle.std.specs.declared.cmp.Ordering.{Ordering}
use Rattle.std.specs.declared.cmp.Ordering.TheVariants.{Less, Equal, Greater}
use Rattle.std.specs.declared.cmp.Reverse.{Reverse}
use Rattle.std.specs.Ordering.{MatchOrdering, is_lt, nat_cmp, ordering_then}
use Rattle.std.proofs.lemmas.Bool.{cases_eq, eq-eqb, ne_eqb, ltb-true, ltb-false}
use Rattle.std.proofs.lemmas.Cmp.{ranked}
use Rattle.std.proofs.lemmas.List.Elements.{recursion_from_All, All-from_recursion}
use Rattle.std.proofs.lemmas.List.Sums.{sum_by-cons}
use Rattle.std.proofs.lemmas.List.Sorted.{sum_by-IsPermutation, All-permutation}
use Rattle.mp_netlist.specs.Circuit.{Circuit}
use Rattle.mp_questions.specs.declared.causes.module_share.ModuleShare.{ModuleShare}
use Rattle.mp_questions.specs.declared.causes.wire_change.WireChange.{WireChange}
use Rattle.mp_questions.specs.causes.Noting.{AreByNumber}
use Rattle.mp_questions.specs.causes.Shares.{share, share_above, has_steps, placed, by_units}

-- a share comes before another, or has its place
abbrev pub Precedes : ModuleShare → ModuleShare → Type 0
Precedes s t = (t.units < s.units) ⊎ ((s.units ≡ t.units) × (s.id.0 ≤ t.id.0))

-- each comes before all behind it
abbrev pub AreInOrder : List ModuleShare → Type 0
AreInOrder [] = Unit {0}
AreInOrder (s ∷ others) = AllByRecursion (Precedes s) others × AreInOrder others

joined : (s t v : ModuleShare) → Precedes s t → Precedes t v → Precedes s v
joined s t v (inl a) (inl b) = inl (omega (arith, a, b))
joined s t v (inl a) (inr b) = inl (omega (arith, a, b.0))
joined s t v (inr a) (inl b) = inl (omega (arith, a.0, b))
joined s t v (inr a) (inr b) = inr (a.0 ∙ b.0, omega (arith, a.1, b.1))

one_place : (s t : ModuleShare) → Precedes s t → Precedes t s → s.id.0 ≡ t.id.0
one_place s t (inl a) (inl b) = absurd (omega (arith, a, b))
one_place s t (inl a) (inr b) = absurd (omega (arith, a, b.0))
one_place s t (inr a) (inl b) = absurd (omega (arith, a.0, b))
one_place s t (inr a) (inr b) = omega (arith, a.1, b.1)

all_joined : (s t : ModuleShare) (others : List ModuleShare) → Precedes s t → AllByRecursion (Precedes t) others → AllByRecursion (Precedes s) others
all_joined s t [] first all = tt
all_joined s t (v ∷ others) first all = (joined s t v first all.0, all_joined s t others first all.1)

-- ---- how often a module has a share

abbrev one_of : ℕ → ModuleShare → ℕ
one_of m s = cond (s.id.0 == m) 1 0

abbrev pub count : ℕ → List ModuleShare → ℕ
count m list = sum_by (one_of m) list

counted : (m : ℕ) (s : ModuleShare) (others : List ModuleShare) → count m (s ∷ others) ≡ one_of m s + count m others
counted m s others = sum_by-cons (one_of m) s others

own : (s : ModuleShare) → one_of s.id.0 s ≡ 1
own s = let same : (s.id.0 == s.id.0) ≡ true = eq-eqb s.id.0 s.id.0 refl in rw same refl

-- what is among those behind it
found_behind : (s : ModuleShare) (others : List ModuleShare) (P : ℕ → Type 0) → AllByRecursion (λ (t : ModuleShare). P t.id.0) others → 0 < count s.id.0 others → P s.id.0
found_behind s [] P all some = absurd (omega (arith, some))
found_behind s (t ∷ others) P all some = elim (cases_eq t.id.0 s.id.0) as (λ _. P s.id.0) [
  | inl same ↦ subst P same all.0
  | inr other ↦
      let no : (t.id.0 == s.id.0) ≡ false = ne_eqb t.id.0 s.id.0 other in
      let none : one_of s.id.0 t ≡ 0 = rw no refl in
      found_behind s others P all.1 (omega (arith, some, counted s.id.0 t others, none))
]

-- ---- one list

-- each share is that which its module has
abbrev pub AreOf : (ℕ → ModuleShare) → List ModuleShare → Type 0
AreOf f list = AllByRecursion (λ (s : ModuleShare). s ≡ f s.id.0) list

module _ (f : ℕ → ModuleShare) where
  of_order : (s : ModuleShare) (others : List ModuleShare) → AreOf f others → AllByRecursion (Precedes s) others → AllByRecursion (λ (t : ModuleShare). Precedes s (f t.id.0)) others
  of_order s [] are all = tt
  of_order s (t ∷ others) are all = (subst (Precedes s) are.0 all.0, of_order s others are.1 all.1)

  -- a share that is counted behind another comes behind it
  behind : (s t : ModuleShare) (others : List ModuleShare) → s ≡ f s.id.0 → AreOf f others → AllByRecursion (Precedes t) others → 0 < count s.id.0 others → Precedes t s
  behind s t others is are all some = subst (Precedes t) (sym is) (found_behind s others (λ m. Precedes t (f m)) (of_order t others are all) some)

  same_first : (s t : ModuleShare) (ss ts : List ModuleShare) → AreOf f (s ∷ ss) → AreOf f (t ∷ ts) → AreInOrder (s ∷ ss) → AreInOrder (t ∷ ts)
      → ((m : ℕ) → count m (s ∷ ss) ≡ count m (t ∷ ts)) → s ≡ t
  same_first s t ss ts are were one other same = elim (cases_eq s.id.0 t.id.0) as (λ _. s ≡ t) [
    | inl is ↦ are.0 ∙ ap f is ∙ sym were.0
    | inr differ ↦
        let first : (t.id.0 == s.id.0) ≡ false = ne_eqb t.id.0 s.id.0 (λ e. differ (sym e)) in
        let second : (s.id.0 == t.id.0) ≡ false = ne_eqb s.id.0 t.id.0 differ in
        let a : one_of s.id.0 t ≡ 0 = rw first refl in
        let b : one_of t.id.0 s ≡ 0 = rw second refl in
        let there : 0 < count s.id.0 ts = omega (arith, same s.id.0, counted s.id.0 s ss, counted s.id.0 t ts, own s, a) in
        let back : 0 < count t.id.0 ss = omega (arith, same t.id.0, counted t.id.0 s ss, counted t.id.0 t ts, own t, b) in
        absurd (differ (one_place s t (behind t s ss were.0 are.1 one.0 back) (behind s t ts are.0 were.1 other.0 there)))
  ]

  -- there is one list in order
  pub one_list : (ss ts : List ModuleShare) → AreOf f ss → AreOf f ts → AreInOrder ss → AreInOrder ts → ((m : ℕ) → count m ss ≡ count m ts) → ss ≡ ts
  one_list [] [] are were one other same = refl
  one_list [] (t ∷ ts) are were one other same = absurd (omega (arith, same t.id.0, counted t.id.0 t ts, own t))
  one_list (s ∷ ss) [] are were one other same = absurd (omega (arith, same s.id.0, counted s.id.0 s ss, own s))
  one_list (s ∷ ss) (t ∷ ts) are were one other same =
      let first = same_first s t ss ts are were one other same in
      let others = one_list ss ts are.1 were.1 one.1 other.1
      (λ m. let e : one_of m s ≡ one_of m t = ap (one_of m) first in omega (arith, same m, counted m s ss, counted m t ts, e)) in
      ap (λ v. v ∷ ss) first ∙ ap (λ vs. t ∷ vs) others

-- ---- placing

all_placed : (P : ModuleShare → Type 0) (s : ModuleShare) (others : List ModuleShare) → P s → AllByRecursion P others → AllByRecursion P (placed s others)
all_placed P s [] here all = (here, tt)
all_placed P s (t ∷ others) here all = by (nat_lt s.units t.units) (all_placed P s others here all.1)
  where
    by : (b : Bool) → AllByRecursion P (placed s others) → AllByRecursion P (cond b (t ∷ placed s others) (s ∷ t ∷ others))
    by true later = (all.0, later)
    by false later = (here, all)

placed_in_order : (s : ModuleShare) (others : List ModuleShare) → AllByRecursion (λ (t : ModuleShare). s.id.0 ≤ t.id.0) others → AreInOrder others → AreInOrder (placed s others)
placed_in_order s [] least order = (tt, tt)
placed_in_order s (t ∷ others) least order = by (nat_lt s.units t.units) refl (placed_in_order s others least.1 order.1)
  where
    by : (b : Bool) → nat_lt s.units t.units ≡ b → AreInOrder (placed s others) → AreInOrder (cond b (t ∷ placed s others) (s ∷ t ∷ others))
    by true less later = (all_placed (Precedes t) s others (inl (ltb-true s.units t.units less)) order.0, later)
    by false not later =
        let most : t.units ≤ s.units = ltb-false s.units t.units not in
        let first : Precedes s t = elim (cases_eq s.units t.units) as (λ _. Precedes s t) [
          | inl same ↦ inr (same, least.0)
          | inr differ ↦ inl (omega (arith, most, differ))
        ] in
        ((first, all_joined s t others first order.0), order)

sum_placed : (g : ModuleShare → ℕ) (s : ModuleShare) (others : List ModuleShare) → sum_by g (placed s others) ≡ g s + sum_by g others
sum_placed g s [] = sum_by-cons g s []
sum_placed g s (t ∷ others) = by (nat_lt s.units t.units) (sum_placed g s others)
  where
    by : (b : Bool) → sum_by g (placed s others) ≡ g s + sum_by g others → sum_by g (cond b (t ∷ placed s others) (s ∷ t ∷ others)) ≡ g s + sum_by g (t ∷ others)
    by true later = omega (arith, sum_by-cons g t (placed s others), sum_by-cons g t others, later)
    by false later = sum_by-cons g s (t ∷ others)

pub sum_by_units : (g : ModuleShare → ℕ) (list : List ModuleShare) → sum_by g (by_units list) ≡ sum_by g list
sum_by_units g [] = refl
sum_by_units g (s ∷ others) = sum_placed g s (by_units others) ∙ ap (λ k. g s + k) (sum_by_units g others) ∙ sym (sum_by-cons g s others)

all_by_units : (P : ModuleShare → Type 0) (list : List ModuleShare) → AllByRecursion P list → AllByRecursion P (by_units list)
all_by_units P [] all = tt
all_by_units P (s ∷ others) all = all_placed P s (by_units others) all.0 (all_by_units P others all.1)

-- ---- shares by number

all_from : (least : ℕ) (a : ℕ) (list : List ModuleShare) → least ≤ a → AreByNumber a list → AllByRecursion (λ (t : ModuleShare). least ≤ t.id.0) list
all_from least a [] le are = tt
all_from least a (s ∷ others) le are = (omega (arith, le, are.0), all_from least (s.id.0 + 1) others (omega (arith, le, are.0)) are.1)

pub units_in_order : (a : ℕ) (list : List ModuleShare) → AreByNumber a list → AreInOrder (by_units list)
units_in_order a [] are = tt
units_in_order a (s ∷ others) are =
    placed_in_order s (by_units others) (all_by_units (λ (t : ModuleShare). s.id.0 ≤ t.id.0) others (all_from s.id.0 (s.id.0 + 1) others (omega arith) are.1))
    (units_in_order (s.id.0 + 1) others are.1)

numbered_later : (a b : ℕ) (list : List ModuleShare) → a ≤ b → AreByNumber b list → AreByNumber a list
numbered_later a b [] le are = tt
numbered_later a b (s ∷ others) le are = (omega (arith, le, are.0), are.1)

kept_by_number : (a : ℕ) (list : List ModuleShare) → AreByNumber a list → AreByNumber a (filter has_steps list)
kept_by_number a [] are = tt
kept_by_number a (s ∷ others) are = by (has_steps s) (kept_by_number (s.id.0 + 1) others are.1)
  where
    by : (b : Bool) → AreByNumber (s.id.0 + 1) (filter has_steps others) → AreByNumber a (cond b (s ∷ filter has_steps others) (filter has_steps others))
    by true later = (are.0, later)
    by false later = numbered_later a (s.id.0 + 1) (filter has_steps others) (omega (arith, are.0)) later

pub shares_by_number : (n : Circuit) (changes : List WireChange) (a k : ℕ) → AreByNumber a (map (share n changes) (range_with_len a k))
shares_by_number n changes a zero = tt
shares_by_number n changes a (suc k) = (omega arith, shares_by_number n changes (a + 1) k)

pub above_by_number : (n : Circuit) (from : ℕ) (changes : List WireChange) (a k : ℕ) → AreByNumber a (map (share_above n from changes) (range_with_len a k))
above_by_number n from changes a zero = tt
above_by_number n from changes a (suc k) = (omega arith, above_by_number n from changes (a + 1) k)

-- the share of this number
abbrev at_number : List ModuleShare → ℕ → ModuleShare
at_number [] m = record { id = record { 0 = m }; units = 0; steps = 0 }
at_number (s ∷ others) m = cond (s.id.0 == m) s (at_number others m)

are_still : (s : ModuleShare) (all list : List ModuleShare) (a : ℕ) → s.id.0 < a → AreByNumber a list → AreOf (at_number all) list → AreOf (at_number (s ∷ all)) list
are_still s all [] a low are of = tt
are_still s all (t ∷ others) a low are of =
    let no : (s.id.0 == t.id.0) ≡ false = ne_eqb s.id.0 t.id.0 (λ e. omega (arith, e, low, are.0)) in
    let same : at_number (s ∷ all) t.id.0 ≡ at_number all t.id.0 = ap (λ (b : Bool). cond b s (at_number all t.id.0)) no in
    (of.0 ∙ sym same, are_still s all others (t.id.0 + 1) (omega (arith, low, are.0)) are.1 of.1)

are_own : (a : ℕ) (list : List ModuleShare) → AreByNumber a list → AreOf (at_number list) list
are_own a [] are = tt
are_own a (s ∷ others) are =
    let here : (s.id.0 == s.id.0) ≡ true = eq-eqb s.id.0 s.id.0 refl in
    (sym (ap (λ (b : Bool). cond b s (at_number others s.id.0)) here), are_still s others others (s.id.0 + 1) (omega arith) are.1 (are_own (s.id.0 + 1) others are.1))

kept_are : (f : ℕ → ModuleShare) (list : List ModuleShare) → AreOf f list → AreOf f (filter has_steps list)
kept_are f [] are = tt
kept_are f (s ∷ others) are = by (has_steps s) (kept_are f others are.1)
  where
    by : (b : Bool) → AreOf f (filter has_steps others) → AreOf f (cond b (s ∷ filter has_steps others) (filter has_steps others))
    by true later = (are.0, later)
    by false later = later

-- ---- sorted by units and number

abbrev pub key_of : ModuleShare → Reverse ℕ × ℕ
key_of s = (record { 0 = s.units }, s.id.0)

abbrev pub compares : Reverse ℕ × ℕ → Reverse ℕ × ℕ → Ordering
compares a b = ordering_then (nat_cmp b.0.0 a.0.0) (nat_cmp a.1 b.1)

precedes_by : (s t : ModuleShare) → is_lt (compares (key_of t) (key_of s)) ≡ false → Precedes s t
precedes_by s t e = by (nat_cmp s.units t.units) (nat_cmp t.id.0 s.id.0) (ranked s.units t.units (nat_cmp s.units t.units) refl) (ranked t.id.0 s.id.0 (nat_cmp t.id.0 s.id.0) refl) e
  where
    by : (o p : Ordering) → MatchOrdering o (s.units < t.units) (s.units ≡ t.units) (t.units < s.units) → MatchOrdering p (t.id.0 < s.id.0) (t.id.0 ≡ s.id.0) (s.id.0 < t.id.0) → is_lt (ordering_then o p) ≡ false → Precedes s t
    by Less p x y e = absurd (let no : ⊥ = cc in no)
    by Equal Less x y e = absurd (let no : ⊥ = cc in no)
    by Equal Equal x y e = inr (x, omega (arith, y))
    by Equal Greater x y e = inr (x, omega (arith, y))
    by Greater p x y e = inl x

adjacent_order : (s : ModuleShare) (list : List ModuleShare) → ((k : ℕ) (d : ModuleShare) → k + 1 < length (s ∷ list) → Precedes (get_or (s ∷ list) k d) (get_or (s ∷ list) (k + 1) d))
    → AllByRecursion (Precedes s) list × AreInOrder list
adjacent_order s [] next = (tt, tt)
adjacent_order s (t ∷ others) next =
    let first : Precedes s t = next 0 s (omega arith) in
    let later = adjacent_order t others (λ k d within. let e : suc k + 1 ≡ suc (k + 1) = omega arith in
    subst (λ j. Precedes (get_or (t ∷ others) k d) (get_or (s ∷ t ∷ others) j d)) e (next (suc k) d (omega (arith, within)))) in
    ((first, all_joined s t others first later.0), later)

sorted_in_order : (list : List ModuleShare) → IsSortedByKey key_of compares list → AreInOrder list
sorted_in_order [] sorted = tt
sorted_in_order (s ∷ list) sorted =
    adjacent_order s list (λ k d within. precedes_by (get_or (s ∷ list) k d) (get_or (s ∷ list) (k + 1) d) (sorted k d (omega arith) within))

-- what a sort makes of the shares with steps is what placing them makes
pub sorted_is : (list found : List ModuleShare) → AreByNumber 0 list → IsPermutation (filter has_steps list) found → IsSortedByKey key_of compares found → found ≡ by_units (filter has_steps list)
sorted_is list found numbers permutation sorted =
    let f = at_number list in
    let kept = filter has_steps list in
    let are : AreOf f kept = kept_are f list (are_own 0 list numbers) in
    let were : AreOf f found = recursion_from_All (λ (s : ModuleShare). s ≡ f s.id.0) found (All-permutation (λ (s : ModuleShare). s ≡ f s.id.0) kept found permutation (All-from_recursion (λ (s : ModuleShare). s ≡ f s.id.0) kept are)) in
    one_list f found (by_units kept) were (all_by_units (λ (s : ModuleShare). s ≡ f s.id.0) kept are) (sorted_in_order found sorted)
    (units_in_order 0 kept (kept_by_number 0 list numbers))
    (λ m. sum_by-IsPermutation (one_of m) kept found permutation ∙ sym (sum_by_units (one_of m) kept))
