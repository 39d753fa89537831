-- The entries that are left are those of the work spans.
use Rattle.std.proofs.Common.{◌≡◌, ◌⊎◌, ℕ, ◌+◌, ◌<◌, ◌≤◌, Bool, true, false, List, [], ◌∷◌, ◌++◌, All, zero, suc, refl, ap, sym, subst, ◌∙◌, arith, inl, inr}
use Rattle.std.specs.List.{Contains}
use Rattle.std.proofs.lemmas.List.Elements.{All-nil, All-cons, All-tail, All-head, All-append}
use Rattle.mp_netlist.specs.Circuit.{Circuit, IsCircuit}
use Rattle.mp_netlist.specs.Delays.{least_delay}
use Rattle.mp_netlist.proofs.DelayLemmas.{delays_are_least}
use Rattle.mp_depend.specs.declared.work.work_entry.WorkEntry.{WorkEntry}
use Rattle.mp_depend.specs.declared.work.work_span.WorkSpan.{WorkSpan}
use Rattle.mp_depend.specs.work.Merges.{IsWorkSpan, first_entry, rest_of, is_sooner, most_entries, entries_left, Takes}
use Rattle.mp_depend.proofs.lemmas.work.OrderLemmas.{contains_cases, contains_later, contains_none}
use Rattle.mp_depend.proofs.lemmas.work.MergeLemmas.{rest_fewer, entries_behind, entries_first, taken_first, none_left}
use Rattle.mp_depend.proofs.lemmas.work.PartLemmas.{IsTiled, next_of, goes_on, rest_cases, IsOf, IsInSome, some_front, some_back, some_cases, part_cases, part_rest}

abbrev pub rest_in : Circuit → WorkSpan → List WorkSpan
rest_in n s = rest_of (least_delay n) n.horizon s

abbrev pub left_in : Circuit → List WorkSpan → List WorkSpan → List WorkEntry
left_in n q w = entries_left (least_delay n) n.horizon q w

abbrev pub IsLeft : Circuit → List WorkSpan → List WorkSpan → ℕ → ℕ → ℕ → Type 0
IsLeft n q w m from to = IsInSome n q m from to ⊎ IsInSome n w m from to

-- which work span is next
pub record IsStep (n : Circuit) (q w : List WorkSpan) (s : WorkSpan) (later others : List WorkSpan) : Type 0 where
  pub takes : Takes q w s later others
  pub is : IsTiled n s
  pub after : All (IsTiled n) (later ++ rest_in n s)
  pub waiting : All (IsTiled n) others
  pub fewer : most_entries (later ++ rest_in n s) + most_entries others < most_entries q + most_entries w
  pub first : left_in n q w ≡ first_entry s ∷ left_in n (later ++ rest_in n s) others

-- a step, or nothing is left
abbrev pub Steps : Circuit → List WorkSpan → List WorkSpan → Type 0
Steps n q w = ((q ≡ []) × (w ≡ [])) ⊎ ((s : WorkSpan) × (later : List WorkSpan) × (others : List WorkSpan) × IsStep n q w s later others)

are_work_spans : (n : Circuit) (q : List WorkSpan) → All (IsTiled n) q → All (IsWorkSpan n.horizon) q
are_work_spans n q tiled = λ k d within. (tiled k d within).is

pub rest_tiled : (n : Circuit) → IsCircuit n → (s : WorkSpan) → IsTiled n s → All (IsTiled n) (rest_in n s)
rest_tiled n ok s tiled = elim (rest_cases n s) as (λ _. All (IsTiled n) (rest_in n s)) [
  | inl more ↦ subst (All (IsTiled n)) (sym more.1) (All-cons (IsTiled n) (next_of n s) [] (goes_on n ok s tiled more.0).tiled (All-nil (IsTiled n)))
  | inr none ↦ subst (All (IsTiled n)) (sym none.1) (All-nil (IsTiled n))
]

fewer_left : (n : Circuit) (q w : List WorkSpan) (s : WorkSpan) (later others : List WorkSpan) → IsTiled n s → Takes q w s later others
    → most_entries (later ++ rest_in n s) + most_entries others < most_entries q + most_entries w
fewer_left n q w s later others is (inl takes) =
    let fewer = rest_fewer (least_delay n) n.horizon s is.is in
    let both = entries_behind later (rest_in n s) in
    let had = ap most_entries takes.1 ∙ entries_first s later in
    let same = ap most_entries takes.2 in
    omega (arith, fewer, both, had, same)
fewer_left n q w s later others is (inr takes) =
    let fewer = rest_fewer (least_delay n) n.horizon s is.is in
    let both = entries_behind later (rest_in n s) in
    let had = ap most_entries takes.1 ∙ entries_first s others in
    let same = ap most_entries takes.2 in
    omega (arith, fewer, both, had, same)

step_by : (n : Circuit) → IsCircuit n → (q w : List WorkSpan) (s : WorkSpan) (later others : List WorkSpan) → All (IsTiled n) q → All (IsTiled n) w → Takes q w s later others
    → IsTiled n s → All (IsTiled n) later → All (IsTiled n) others → IsStep n q w s later others
step_by n ok q w s later others begun waiting takes is after rest = record {
  takes = takes;
  is = is;
  after = All-append (IsTiled n) later (rest_in n s) after (rest_tiled n ok s is);
  waiting = rest;
  fewer = fewer_left n q w s later others is takes;
  first = taken_first (least_delay n) n.horizon (delays_are_least n ok).positive q w s later others (are_work_spans n q begun) (are_work_spans n w waiting) takes;
}

pub find_step : (n : Circuit) → IsCircuit n → (q w : List WorkSpan) → All (IsTiled n) q → All (IsTiled n) w → Steps n q w
find_step n ok [] [] begun waiting = inl (refl, refl)
find_step n ok [] (t ∷ w) begun waiting =
    inr (t, [], w, step_by n ok [] (t ∷ w) t [] w begun waiting (inr (refl, refl, refl)) (All-head (IsTiled n) t w waiting) begun (All-tail (IsTiled n) t w waiting))
find_step n ok (s ∷ q) [] begun waiting =
    inr (s, q, [], step_by n ok (s ∷ q) [] s q [] begun waiting (inl (refl, refl, refl)) (All-head (IsTiled n) s q begun) (All-tail (IsTiled n) s q begun) waiting)
find_step n ok (s ∷ q) (t ∷ w) begun waiting = by (is_sooner t s) refl
  where
    by : (b : Bool) → is_sooner t s ≡ b → Steps n (s ∷ q) (t ∷ w)
    by true e = inr (t, s ∷ q, w, step_by n ok (s ∷ q) (t ∷ w) t (s ∷ q) w begun waiting (inr (e, refl, refl)) (All-head (IsTiled n) t w waiting) begun (All-tail (IsTiled n) t w waiting))
    by false e = inr (s, q, t ∷ w, step_by n ok (s ∷ q) (t ∷ w) s q (t ∷ w) begun waiting (inl (e, refl, refl)) (All-head (IsTiled n) s q begun) (All-tail (IsTiled n) s q begun) waiting)

pub taken_cases : (n : Circuit) (q w : List WorkSpan) (s : WorkSpan) (later others : List WorkSpan) → Takes q w s later others → (m from to : ℕ) → IsLeft n q w m from to
    → IsOf n s m from to ⊎ IsLeft n later others m from to
taken_cases n q w s later others (inl takes) m from to (inl has) = by (subst (λ l. IsInSome n l m from to) takes.1 has)
  where
    by : IsInSome n (s ∷ later) m from to → IsOf n s m from to ⊎ IsLeft n later others m from to
    by (inl here) = inl here
    by (inr more) = inr (inl more)
taken_cases n q w s later others (inl takes) m from to (inr has) = inr (inr (subst (λ l. IsInSome n l m from to) (sym takes.2) has))
taken_cases n q w s later others (inr takes) m from to (inl has) = inr (inl (subst (λ l. IsInSome n l m from to) (sym takes.2) has))
taken_cases n q w s later others (inr takes) m from to (inr has) = by (subst (λ l. IsInSome n l m from to) takes.1 has)
  where
    by : IsInSome n (s ∷ others) m from to → IsOf n s m from to ⊎ IsLeft n later others m from to
    by (inl here) = inl here
    by (inr more) = inr (inr more)

pub taken_here : (n : Circuit) (q w : List WorkSpan) (s : WorkSpan) (later others : List WorkSpan) → Takes q w s later others → (m from to : ℕ) → IsOf n s m from to → IsLeft n q w m from to
taken_here n q w s later others (inl takes) m from to is = inl (subst (λ l. IsInSome n l m from to) (sym takes.1) (inl is))
taken_here n q w s later others (inr takes) m from to is = inr (subst (λ l. IsInSome n l m from to) (sym takes.1) (inl is))

pub taken_left : (n : Circuit) (q w : List WorkSpan) (s : WorkSpan) (later others : List WorkSpan) → Takes q w s later others → (m from to : ℕ) → IsLeft n later others m from to → IsLeft n q w m from to
taken_left n q w s later others (inl takes) m from to (inl has) = inl (subst (λ l. IsInSome n l m from to) (sym takes.1) (inr has))
taken_left n q w s later others (inl takes) m from to (inr has) = inr (subst (λ l. IsInSome n l m from to) takes.2 has)
taken_left n q w s later others (inr takes) m from to (inl has) = inl (subst (λ l. IsInSome n l m from to) takes.2 has)
taken_left n q w s later others (inr takes) m from to (inr has) = inr (subst (λ l. IsInSome n l m from to) (sym takes.1) (inr has))

abbrev pub IsLeftEntry : Circuit → List WorkSpan → List WorkSpan → WorkEntry → Type 0
IsLeftEntry n q w e = IsLeft n q w e.«module».0 e.from e.to

pub none_is_left : (n : Circuit) (q w : List WorkSpan) → (q ≡ []) × (w ≡ []) → left_in n q w ≡ []
none_is_left n q w none = ap (λ l. left_in n l w) none.0 ∙ ap (λ l. left_in n [] l) none.1 ∙ none_left (least_delay n) n.horizon

-- each entry that is left is in a work span
pub left_sound : (n : Circuit) → IsCircuit n → (f : ℕ) (q w : List WorkSpan) → All (IsTiled n) q → All (IsTiled n) w → most_entries q + most_entries w ≤ f
    → (e : WorkEntry) → Contains (left_in n q w) e → IsLeftEntry n q w e
left_sound n ok zero q w begun waiting enough e has = elim (find_step n ok q w begun waiting) as (λ _. IsLeftEntry n q w e) [
  | inl none ↦ absurd (contains_none e (subst (λ (l : List WorkEntry). Contains l e) (none_is_left n q w none) has))
  | inr found ↦ let fewer = found.3.fewer in absurd (omega (arith, fewer, enough))
]
left_sound n ok (suc f) q w begun waiting enough e has = elim (find_step n ok q w begun waiting) as (λ _. IsLeftEntry n q w e) [
  | inl none ↦ absurd (contains_none e (subst (λ (l : List WorkEntry). Contains l e) (none_is_left n q w none) has))
  | inr found ↦ by (left_sound n ok f) found.0 found.1 found.2 found.3
]
  where
    by : ((l r : List WorkSpan) → All (IsTiled n) l → All (IsTiled n) r → most_entries l + most_entries r ≤ f → (d : WorkEntry) → Contains (left_in n l r) d → IsLeftEntry n l r d)
        → (s : WorkSpan) (later others : List WorkSpan) → IsStep n q w s later others → IsLeftEntry n q w e
    by again s later others step =
        let tail = left_in n (later ++ rest_in n s) others in
        let fewer = step.fewer in
        elim (contains_cases (first_entry s) tail e (subst (λ (l : List WorkEntry). Contains l e) step.first has)) as (λ _. IsLeftEntry n q w e) [
          | inl is ↦ taken_here n q w s later others step.takes e.«module».0 e.from e.to (subst (λ (x : WorkEntry). IsOf n s x.«module».0 x.from x.to) is (refl, inl (refl, refl)))
          | inr more ↦ on (again (later ++ rest_in n s) others step.after step.waiting (omega (arith, fewer, enough)) e more)
        ]
      where
        on : IsLeftEntry n (later ++ rest_in n s) others e → IsLeftEntry n q w e
        on (inl has) = elim (some_cases n later (rest_in n s) e.«module».0 e.from e.to has) as (λ _. IsLeftEntry n q w e) [
          | inl front ↦ taken_left n q w s later others step.takes e.«module».0 e.from e.to (inl front)
          | inr rest ↦ taken_here n q w s later others step.takes e.«module».0 e.from e.to (part_rest n ok s step.is e.«module».0 e.from e.to rest)
        ]
        on (inr has) = taken_left n q w s later others step.takes e.«module».0 e.from e.to (inr has)

abbrev entry_as : ℕ → ℕ → ℕ → WorkEntry
entry_as m from to = record { «module» = record { 0 = m }; from = from; to = to }

first_is : (s : WorkSpan) (e : WorkEntry) → s.«module».0 ≡ e.«module».0 → e.from ≡ s.from → e.to ≡ s.first_end → first_entry s ≡ e
first_is s e m from to =
    ap (λ (k : ℕ). entry_as k s.from s.first_end) m ∙ ap (λ (k : ℕ). entry_as e.«module».0 k s.first_end) (sym from) ∙ ap (λ (k : ℕ). entry_as e.«module».0 e.from k) (sym to)

-- each part of a work span is an entry that is left
pub left_complete : (n : Circuit) → IsCircuit n → (f : ℕ) (q w : List WorkSpan) → All (IsTiled n) q → All (IsTiled n) w → most_entries q + most_entries w ≤ f
    → (e : WorkEntry) → IsLeftEntry n q w e → Contains (left_in n q w) e
left_complete n ok zero q w begun waiting enough e has = elim (find_step n ok q w begun waiting) as (λ _. Contains (left_in n q w) e) [
  | inl none ↦ absurd (nothing has none)
  | inr found ↦ let fewer = found.3.fewer in absurd (omega (arith, fewer, enough))
]
  where
    nothing : IsLeftEntry n q w e → (q ≡ []) × (w ≡ []) → ⊥
    nothing (inl has) none = subst (λ l. IsInSome n l e.«module».0 e.from e.to) none.0 has
    nothing (inr has) none = subst (λ l. IsInSome n l e.«module».0 e.from e.to) none.1 has
left_complete n ok (suc f) q w begun waiting enough e has = elim (find_step n ok q w begun waiting) as (λ _. Contains (left_in n q w) e) [
  | inl none ↦ absurd (nothing has none)
  | inr found ↦ by (left_complete n ok f) found.0 found.1 found.2 found.3
]
  where
    nothing : IsLeftEntry n q w e → (q ≡ []) × (w ≡ []) → ⊥
    nothing (inl has) none = subst (λ l. IsInSome n l e.«module».0 e.from e.to) none.0 has
    nothing (inr has) none = subst (λ l. IsInSome n l e.«module».0 e.from e.to) none.1 has

    by : ((l r : List WorkSpan) → All (IsTiled n) l → All (IsTiled n) r → most_entries l + most_entries r ≤ f → (d : WorkEntry) → IsLeftEntry n l r d → Contains (left_in n l r) d)
        → (s : WorkSpan) (later others : List WorkSpan) → IsStep n q w s later others → Contains (left_in n q w) e
    by again s later others step = subst (λ (l : List WorkEntry). Contains l e) (sym step.first)
        (elim (taken_cases n q w s later others step.takes e.«module».0 e.from e.to has) as (λ _. Contains (first_entry s ∷ tail) e) [
          | inl is ↦ elim (part_cases n ok s step.is e.«module».0 e.from e.to is) as (λ _. Contains (first_entry s ∷ tail) e) [
            | inl first ↦ (0, omega arith, first_is s e first.0 first.1 first.2)
            | inr rest ↦ more (inl (some_back n later (rest_in n s) e.«module».0 e.from e.to rest))
          ]
          | inr other ↦ on other
        ])
      where
        tail : List WorkEntry
        tail = left_in n (later ++ rest_in n s) others

        more : IsLeftEntry n (later ++ rest_in n s) others e → Contains (first_entry s ∷ tail) e
        more left = let fewer = step.fewer in contains_later (first_entry s) tail e (again (later ++ rest_in n s) others step.after step.waiting (omega (arith, fewer, enough)) e left)

        on : IsLeft n later others e.«module».0 e.from e.to → Contains (first_entry s ∷ tail) e
        on (inl front) = more (inl (some_front n later (rest_in n s) e.«module».0 e.from e.to front))
        on (inr waits) = more (inr waits)
