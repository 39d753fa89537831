-- The entries that are left are in order.
use Rattle.std.proofs.Common.{◌≡◌, ◌⊎◌, ℕ, ◌+◌, ◌<◌, ◌≤◌, Bool, true, false, true≢false, List, [], ◌∷◌, ◌++◌, slice_index_or, nat_lt, ◌==◌, ◌&&◌, ◌||◌, All, zero, suc, refl, ap, sym, subst, ◌∙◌, arith, inl, inr}
use Rattle.std.specs.List.{Contains}
use Rattle.std.proofs.lemmas.Bool.{cases_lt, cases_eq, ltb-true, eqb-true, lt-ltb, eq-eqb, or_cases, and_parts}
use Rattle.std.proofs.lemmas.List.{append-nil}
use Rattle.std.proofs.lemmas.List.Elements.{All-nil, All-cons, All-tail, All-head, All-append}
use Rattle.mp_netlist.specs.Circuit.{Circuit, IsCircuit}
use Rattle.mp_depend.specs.declared.work.work_entry.WorkEntry.{WorkEntry}
use Rattle.mp_depend.specs.declared.work.work_span.WorkSpan.{WorkSpan}
use Rattle.mp_depend.specs.work.Work.{window_end, IsWindow, ComesBefore}
use Rattle.mp_depend.specs.work.Merges.{first_entry, is_sooner, most_entries, takes_waiting, Takes}
use Rattle.mp_depend.specs.work.WorkSpans.{IsPart}
use Rattle.mp_depend.proofs.lemmas.work.WindowLemmas.{window_within, windows_apart}
use Rattle.mp_depend.proofs.lemmas.work.OrderLemmas.{IsOrdered, joined, contains_first}
use Rattle.mp_depend.proofs.lemmas.work.PartLemmas.{IsTiled, GoesOn, next_of, goes_on, rest_cases, IsOf, IsInSome, some_cases, part_rest}
use Rattle.mp_depend.proofs.lemmas.work.LeftLemmas.{rest_in, left_in, IsLeftEntry, IsStep, find_step, left_sound, none_is_left}

all_to : (P Q : WorkSpan → Type 0) → ((t : WorkSpan) → P t → Q t) → (q : List WorkSpan) → All P q → All Q q
all_to P Q f [] all = All-nil Q
all_to P Q f (t ∷ q) all = All-cons Q t q (f t (All-head P t q all)) (all_to P Q f q (All-tail P t q all))

-- the first entry of the work span comes after that one
abbrev pub IsAfter : WorkEntry → WorkSpan → Type 0
IsAfter x t = ComesBefore x (first_entry t)

-- then all its entries do
before_parts : (n : Circuit) → IsCircuit n → (x : WorkEntry) (t : WorkSpan) → IsAfter x t → (e : WorkEntry) → IsOf n t e.«module».0 e.from e.to → ComesBefore x e
before_parts n ok x t before e is = by is.1 before
  where
    by : IsPart n t e.from e.to → IsAfter x t → ComesBefore x e
    by (inl first) (inl less) = let to = first.1 in inl (omega (arith, less, to))
    by (inl first) (inr same) = let to = first.1 in let m = is.0 in inr (omega (arith, same.0, to), omega (arith, same.1, m))
    by (inr other) (inl less) = let within = window_within n ok e.from e.to other.0 in inl (omega (arith, less, within.1, other.1))
    by (inr other) (inr same) = let within = window_within n ok e.from e.to other.0 in inl (omega (arith, same.0, within.1, other.1))

all_before : (n : Circuit) → IsCircuit n → (x : WorkEntry) (q : List WorkSpan) → All (IsAfter x) q → (e : WorkEntry) → IsInSome n q e.«module».0 e.from e.to → ComesBefore x e
all_before n ok x [] all e has = absurd has
all_before n ok x (t ∷ q) all e (inl here) = before_parts n ok x t (All-head (IsAfter x) t q all) e here
all_before n ok x (t ∷ q) all e (inr later) = all_before n ok x q (All-tail (IsAfter x) t q all) e later

-- each comes before all behind it
abbrev pub IsSorted : List WorkSpan → Type 0
IsSorted [] = Unit {0}
IsSorted (s ∷ q) = All (IsAfter (first_entry s)) q × IsSorted q

sorted_end : (q : List WorkSpan) (r : WorkSpan) → IsSorted q → All (λ t. IsAfter (first_entry t) r) q → IsSorted (q ++ r ∷ [])
sorted_end [] r sorted all = (All-nil (IsAfter (first_entry r)), tt)
sorted_end (s ∷ q) r sorted all = (
  All-append (IsAfter (first_entry s)) q (r ∷ []) sorted.0 (All-cons (IsAfter (first_entry s)) r [] (All-head (λ t. IsAfter (first_entry t) r) s q all) (All-nil (IsAfter (first_entry s)))),
  sorted_end q r sorted.1 (All-tail (λ t. IsAfter (first_entry t) r) s q all),
)

pub all_after : (x : WorkEntry) (t : WorkSpan) (q : List WorkSpan) → IsAfter x t → All (IsAfter (first_entry t)) q → All (IsAfter x) (t ∷ q)
all_after x t q first all = All-cons (IsAfter x) t q first (all_to (IsAfter (first_entry t)) (IsAfter x) (λ u after. joined x (first_entry t) (first_entry u) first after) q all)

-- it goes on after the entry before, with a window
pub record IsBegun (n : Circuit) (b : WorkEntry) (t : WorkSpan) : Type 0 where
  pub window : IsWindow n t.from t.first_end
  pub since : (t.from < b.to) ⊎ ((t.from ≡ b.to) × (t.«module».0 ≤ b.«module».0))

-- no module has two entries that end together in the work spans
abbrev pub AreOnce : Circuit → List WorkSpan → Type 0
AreOnce n [] = Unit {0}
AreOnce n (t ∷ w) = ((m a c to : ℕ) → IsOf n t m a to → IsInSome n w m c to → ⊥) × AreOnce n w

-- what holds of the work spans that have begun and those that wait, behind an entry
pub record AreQueues (n : Circuit) (b : WorkEntry) (q w : List WorkSpan) : Type 0 where
  pub begun : All (IsBegun n b) q
  pub above : All (IsAfter b) q
  pub waits : All (IsAfter b) w
  pub sorted : IsSorted q
  pub order : IsSorted w
  pub apart : (m a c to : ℕ) → IsInSome n q m a to → IsInSome n w m c to → ⊥
  pub once : AreOnce n w

-- what holds when one is taken
record IsTaken (n : Circuit) (b : WorkEntry) (s : WorkSpan) (later others : List WorkSpan) : Type 0 where
  pub after : All (IsAfter (first_entry s)) later
  pub rest : All (IsAfter (first_entry s)) others
  pub above : IsAfter b s
  pub begun : All (IsBegun n b) later
  pub sorted : IsSorted later
  pub order : IsSorted others
  pub apart : (m a c to : ℕ) → IsInSome n (s ∷ later) m a to → IsInSome n others m c to → ⊥
  pub once : AreOnce n others

is_before : (s t : WorkSpan) → is_sooner s t ≡ true → IsAfter (first_entry s) t
is_before s t e = elim (or_cases (nat_lt s.first_end t.first_end) (s.first_end == t.first_end && nat_lt s.«module».0 t.«module».0) e) as (λ _. IsAfter (first_entry s) t) [
  | inl less ↦ inl (ltb-true s.first_end t.first_end less)
  | inr same ↦
      let parts = and_parts (s.first_end == t.first_end) (nat_lt s.«module».0 t.«module».0) same in
      inr (eqb-true s.first_end t.first_end parts.0, ltb-true s.«module».0 t.«module».0 parts.1)
]

or_left : (x y : Bool) → x ≡ true → (x || y) ≡ true
or_left true y e = refl
or_left false y e = absurd (true≢false (sym e))

or_right : (x y : Bool) → y ≡ true → (x || y) ≡ true
or_right true y e = refl
or_right false y e = e

both : (x y : Bool) → x ≡ true → y ≡ true → (x && y) ≡ true
both true y a b = b
both false y a b = absurd (true≢false (sym a))

-- of two that don't end together for one module
not_before : (s t : WorkSpan) → is_sooner t s ≡ false → ((s.first_end ≡ t.first_end) → (s.«module».0 ≡ t.«module».0) → ⊥) → IsAfter (first_entry s) t
not_before s t e differ = elim (cases_lt s.first_end t.first_end) as (λ _. IsAfter (first_entry s) t) [
  | inl less ↦ inl less
  | inr not ↦ elim (cases_eq s.first_end t.first_end) as (λ _. IsAfter (first_entry s) t) [
    | inl same ↦ elim (cases_lt s.«module».0 t.«module».0) as (λ _. IsAfter (first_entry s) t) [
      | inl less ↦ inr (same, less)
      | inr more ↦ elim (cases_eq s.«module».0 t.«module».0) as (λ _. IsAfter (first_entry s) t) [
        | inl one ↦ absurd (differ same one)
        | inr other ↦
            let a = eq-eqb t.first_end s.first_end (sym same) in
            let b = lt-ltb t.«module».0 s.«module».0 (omega (arith, more, other)) in
            absurd (true≢false (sym (or_right (nat_lt t.first_end s.first_end) (t.first_end == s.first_end && nat_lt t.«module».0 s.«module».0) (both (t.first_end == s.first_end) (nat_lt t.«module».0 s.«module».0) a b)) ∙ e))
      ]
    ]
    | inr other ↦ absurd (true≢false (sym (or_left (nat_lt t.first_end s.first_end) (t.first_end == s.first_end && nat_lt t.«module».0 s.«module».0) (lt-ltb t.first_end s.first_end (omega (arith, not, other)))) ∙ e))
  ]
]

taken_queues : (n : Circuit) (b : WorkEntry) (q w : List WorkSpan) (s : WorkSpan) (later others : List WorkSpan) → AreQueues n b q w → Takes q w s later others → IsTaken n b s later others
taken_queues n b q w s later others queues (inl takes) =
    let now : AreQueues n b (s ∷ later) others = subst (λ l. AreQueues n b (s ∷ later) l) (sym takes.2) (subst (λ l. AreQueues n b l w) takes.1 queues) in
    let not : takes_waiting (s ∷ later) others ≡ false = subst (λ l. takes_waiting (s ∷ later) l ≡ false) (sym takes.2) (subst (λ l. takes_waiting l w ≡ false) takes.1 takes.0) in record {
      after = now.sorted.0;
      rest = by others now.order now.apart not;
      above = All-head (IsAfter b) s later now.above;
      begun = All-tail (IsBegun n b) s later now.begun;
      sorted = now.sorted.1;
      order = now.order;
      apart = now.apart;
      once = now.once;
    }
  where
    by : (l : List WorkSpan) → IsSorted l → ((m a c to : ℕ) → IsInSome n (s ∷ later) m a to → IsInSome n l m c to → ⊥) → takes_waiting (s ∷ later) l ≡ false → All (IsAfter (first_entry s)) l
    by [] order apart not = All-nil (IsAfter (first_entry s))
    by (t ∷ l) order apart not = all_after (first_entry s) t l
        (not_before s t not (λ same one. apart s.«module».0 s.from t.from s.first_end (inl (refl, inl (refl, refl))) (inl (sym one, inl (refl, same))))) order.0
taken_queues n b q w s later others queues (inr takes) =
    let now : AreQueues n b later (s ∷ others) = subst (λ l. AreQueues n b later l) takes.1 (subst (λ l. AreQueues n b l w) (sym takes.2) queues) in
    let is : takes_waiting later (s ∷ others) ≡ true = subst (λ l. takes_waiting later l ≡ true) takes.1 (subst (λ l. takes_waiting l w ≡ true) (sym takes.2) takes.0) in record {
      after = by later now.sorted is;
      rest = now.order.0;
      above = All-head (IsAfter b) s others now.waits;
      begun = now.begun;
      sorted = now.sorted;
      order = now.order.1;
      apart = λ m a c to has had. both now m a c to has had;
      once = now.once.1;
    }
  where
    by : (l : List WorkSpan) → IsSorted l → takes_waiting l (s ∷ others) ≡ true → All (IsAfter (first_entry s)) l
    by [] sorted is = All-nil (IsAfter (first_entry s))
    by (u ∷ l) sorted is = all_after (first_entry s) u l (is_before s u is) sorted.0

    both : AreQueues n b later (s ∷ others) → (m a c to : ℕ) → IsInSome n (s ∷ later) m a to → IsInSome n others m c to → ⊥
    both now m a c to (inl here) had = now.once.0 m a c to here had
    both now m a c to (inr more) had = now.apart m a c to more (inr had)

rest_all : (n : Circuit) → IsCircuit n → (P : WorkSpan → Type 0) (s : WorkSpan) → IsTiled n s → (GoesOn n s → P (next_of n s)) → All P (rest_in n s)
rest_all n ok P s tiled holds = elim (rest_cases n s) as (λ _. All P (rest_in n s)) [
  | inl more ↦ subst (All P) (sym more.1) (All-cons P (next_of n s) [] (holds (goes_on n ok s tiled more.0)) (All-nil P))
  | inr none ↦ subst (All P) (sym none.1) (All-nil P)
]

-- what begun before goes on before what is taken later
goes_before : (n : Circuit) → IsCircuit n → (b : WorkEntry) (s t : WorkSpan) → IsAfter b s → GoesOn n s → IsBegun n b t → IsAfter (first_entry t) (next_of n s)
goes_before n ok b s t above goes begun = by begun.since above
  where
    past : s.first_end < window_end n s.first_end
    past = (window_within n ok s.first_end (window_end n s.first_end) goes.window).1

    earlier : t.from < s.first_end → IsAfter (first_entry t) (next_of n s)
    earlier less =
        let over = windows_apart n ok t.from t.first_end s.first_end (window_end n s.first_end) begun.window goes.window less in
        let on = past in
        inl (omega (arith, over, on))

    by : (t.from < b.to) ⊎ ((t.from ≡ b.to) × (t.«module».0 ≤ b.«module».0)) → IsAfter b s → IsAfter (first_entry t) (next_of n s)
    by (inl less) (inl first) = earlier (omega (arith, less, first))
    by (inl less) (inr same) = earlier (omega (arith, less, same.0))
    by (inr at) (inl first) = earlier (omega (arith, at.0, first))
    by (inr at) (inr same) = inr (begun.window.ends ∙ ap (window_end n) (at.0 ∙ same.0), omega (arith, at.1, same.1))

-- and then it holds behind this one's entry
taken_on : (n : Circuit) → IsCircuit n → (b : WorkEntry) (s : WorkSpan) (later others : List WorkSpan) → IsTiled n s → IsTaken n b s later others → AreQueues n (first_entry s) (later ++ rest_in n s) others
taken_on n ok b s later others tiled taken = record {
  begun = All-append (IsBegun n (first_entry s)) later (rest_in n s)
      (all_to (IsBegun n b) (IsBegun n (first_entry s)) on later taken.begun)
      (rest_all n ok (IsBegun n (first_entry s)) s tiled (λ goes. record { window = goes.window; since = inr (refl, omega arith) }));
  above = All-append (IsAfter (first_entry s)) later (rest_in n s) taken.after
      (rest_all n ok (IsAfter (first_entry s)) s tiled (λ goes. inl (window_within n ok s.first_end (window_end n s.first_end) goes.window).1));
  waits = taken.rest;
  sorted = sorted;
  order = taken.order;
  apart = apart;
  once = taken.once;
}
  where
    on : (t : WorkSpan) → IsBegun n b t → IsBegun n (first_entry s) t
    on t begun = record { window = begun.window; since = by begun.since taken.above }
      where
        by : (t.from < b.to) ⊎ ((t.from ≡ b.to) × (t.«module».0 ≤ b.«module».0)) → IsAfter b s → (t.from < s.first_end) ⊎ ((t.from ≡ s.first_end) × (t.«module».0 ≤ s.«module».0))
        by (inl less) (inl first) = inl (omega (arith, less, first))
        by (inl less) (inr same) = inl (omega (arith, less, same.0))
        by (inr at) (inl first) = inl (omega (arith, at.0, first))
        by (inr at) (inr same) = inr (at.0 ∙ same.0, omega (arith, at.1, same.1))

    sorted : IsSorted (later ++ rest_in n s)
    sorted = elim (rest_cases n s) as (λ _. IsSorted (later ++ rest_in n s)) [
      | inl more ↦ subst (λ l. IsSorted (later ++ l)) (sym more.1) (sorted_end later (next_of n s) taken.sorted
          (all_to (IsBegun n b) (λ t. IsAfter (first_entry t) (next_of n s)) (λ t begun. goes_before n ok b s t taken.above (goes_on n ok s tiled more.0) begun) later taken.begun))
      | inr none ↦ subst (λ l. IsSorted (later ++ l)) (sym none.1) (subst IsSorted (sym (append-nil later)) taken.sorted)
    ]

    apart : (m a c to : ℕ) → IsInSome n (later ++ rest_in n s) m a to → IsInSome n others m c to → ⊥
    apart m a c to has had = elim (some_cases n later (rest_in n s) m a to has) as (λ _. ⊥) [
      | inl front ↦ taken.apart m a c to (inr front) had
      | inr rest ↦ taken.apart m a c to (inl (part_rest n ok s tiled m a to rest)) had
    ]

none_ordered : (xs : List WorkEntry) → xs ≡ [] → IsOrdered xs
none_ordered [] none = λ k d within. absurd (omega (arith, within))
none_ordered (x ∷ xs) none = absurd (let no : ⊥ = cc in no)

more_ordered : (x : WorkEntry) (xs : List WorkEntry) → ((e : WorkEntry) → Contains xs e → ComesBefore x e) → IsOrdered xs → IsOrdered (x ∷ xs)
more_ordered x [] first ordered k d within = absurd (omega (arith, within))
more_ordered x (y ∷ ys) first ordered zero d within = first y (contains_first y ys)
more_ordered x (y ∷ ys) first ordered (suc k) d within =
    let e : suc (k + 1) ≡ suc k + 1 = omega arith in
    subst (λ j. ComesBefore (slice_index_or (y ∷ ys) k d) (slice_index_or (x ∷ y ∷ ys) j d)) e (ordered k d (omega (arith, within)))

pub left_ordered : (n : Circuit) → IsCircuit n → (f : ℕ) (q w : List WorkSpan) → All (IsTiled n) q → All (IsTiled n) w → most_entries q + most_entries w ≤ f
    → (b : WorkEntry) → AreQueues n b q w → IsOrdered (left_in n q w)
left_ordered n ok zero q w begun waiting enough b queues = elim (find_step n ok q w begun waiting) as (λ _. IsOrdered (left_in n q w)) [
  | inl none ↦ none_ordered (left_in n q w) (none_is_left n q w none)
  | inr found ↦ let fewer = found.3.fewer in absurd (omega (arith, fewer, enough))
]
left_ordered n ok (suc f) q w begun waiting enough b queues = elim (find_step n ok q w begun waiting) as (λ _. IsOrdered (left_in n q w)) [
  | inl none ↦ none_ordered (left_in n q w) (none_is_left n q w none)
  | inr found ↦ by (left_ordered n ok f) found.0 found.1 found.2 found.3
]
  where
    by : ((l r : List WorkSpan) → All (IsTiled n) l → All (IsTiled n) r → most_entries l + most_entries r ≤ f → (x : WorkEntry) → AreQueues n x l r → IsOrdered (left_in n l r))
        → (s : WorkSpan) (later others : List WorkSpan) → IsStep n q w s later others → IsOrdered (left_in n q w)
    by again s later others step = subst IsOrdered (sym step.first) (more_ordered (first_entry s) tail first
        (let fewer = step.fewer in again (later ++ rest_in n s) others step.after step.waiting (omega (arith, fewer, enough)) (first_entry s) on))
      where
        tail : List WorkEntry
        tail = left_in n (later ++ rest_in n s) others

        on : AreQueues n (first_entry s) (later ++ rest_in n s) others
        on = taken_on n ok b s later others step.is (taken_queues n b q w s later others queues step.takes)

        in_some : (e : WorkEntry) → IsLeftEntry n (later ++ rest_in n s) others e → ComesBefore (first_entry s) e
        in_some e (inl has) = all_before n ok (first_entry s) (later ++ rest_in n s) on.above e has
        in_some e (inr has) = all_before n ok (first_entry s) others on.waits e has

        first : (e : WorkEntry) → Contains tail e → ComesBefore (first_entry s) e
        first e has = in_some e (left_sound n ok (most_entries (later ++ rest_in n s) + most_entries others) (later ++ rest_in n s) others step.after step.waiting (omega arith) e has)
