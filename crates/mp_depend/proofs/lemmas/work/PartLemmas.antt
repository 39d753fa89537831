-- The parts of a work span: its first entry, and what is left of it.
use Rattle.std.proofs.Common.{◌≡◌, ◌⊎◌, ℕ, ◌<◌, ◌≤◌, Bool, true, false, if◌then◌else◌, nat_lt, List, [], ◌∷◌, ◌++◌, refl, ap, sym, subst, ◌∙◌, arith, inl, inr}
use Rattle.std.proofs.lemmas.Bool.{cases_lt, cases_eq, ltb-true, ltb-false}
use Rattle.mp_netlist.specs.Circuit.{Circuit, IsCircuit}
use Rattle.mp_netlist.specs.Delays.{least_delay}
use Rattle.mp_depend.specs.declared.work.work_span.WorkSpan.{WorkSpan}
use Rattle.mp_depend.specs.work.Work.{window_of, window_end, IsWindow}
use Rattle.mp_depend.specs.work.Merges.{IsWorkSpan, rest_of}
use Rattle.mp_depend.specs.work.WorkSpans.{IsPart}
use Rattle.mp_depend.proofs.lemmas.work.WindowLemmas.{window_within, windows_apart, window_cover}

-- where a window ends the next one begins, or the horizon is
pub next_begins : (n : Circuit) → IsCircuit n → (from to : ℕ) → IsWindow n from to → (to ≡ n.horizon) ⊎ (window_of n to ≡ to)
next_begins n ok from to window = elim (cases_lt to n.horizon) as (λ _. (to ≡ n.horizon) ⊎ (window_of n to ≡ to)) [
  | inl below ↦ inr (by (window_of n to) (window_end n (window_of n to)) (window_cover n ok to below))
  | inr not ↦ let ends = window.ends in inl (omega (arith, not, ends))
]
  where
    by : (start end : ℕ) → IsWindow n start end × (start ≤ to) × (to < end) → start ≡ to
    by start end cover = elim (cases_lt start from) as (λ _. start ≡ to) [
      | inl earlier ↦
          let over = windows_apart n ok start end from to cover.0 window earlier in
          let within = window_within n ok from to window in
          absurd (omega (arith, over, cover.2, within.1))
      | inr not ↦ elim (cases_eq from start) as (λ _. start ≡ to) [
        | inl same ↦
            let e : end ≡ to = cover.0.ends ∙ ap (window_end n) (sym same) ∙ sym window.ends in
            absurd (omega (arith, e, cover.2))
        | inr other ↦
            let over = windows_apart n ok from to start end window cover.0 (omega (arith, not, other)) in
            omega (arith, over, cover.1)
      ]
    ]

-- windows lead from its first end to its last
pub record IsTiled (n : Circuit) (s : WorkSpan) : Type 0 where
  pub is : IsWorkSpan n.horizon s
  pub first : (s.first_end ≡ n.horizon) ⊎ (window_of n s.first_end ≡ s.first_end)
  pub last : (s.last_end ≡ n.horizon) ⊎ ((start : ℕ) × IsWindow n start s.last_end)

-- what is left of a work span that goes on
abbrev pub next_of : Circuit → WorkSpan → WorkSpan
next_of n s = record { «module» = s.«module»; from = s.first_end; first_end = window_end n s.first_end; last_end = s.last_end }

pub record GoesOn (n : Circuit) (s : WorkSpan) : Type 0 where
  pub window : IsWindow n s.first_end (window_end n s.first_end)
  pub within : window_end n s.first_end ≤ s.last_end
  pub tiled : IsTiled n (next_of n s)

pub goes_on : (n : Circuit) → IsCircuit n → (s : WorkSpan) → IsTiled n s → s.first_end < s.last_end → GoesOn n s
goes_on n ok s tiled before = record { window = window; within = within; tiled = record { is = record { begins = (window_within n ok s.first_end (window_end n s.first_end) window).1; ends = tiled.is.ends }; first = next_begins n ok s.first_end (window_end n s.first_end) window; last = tiled.last } }
  where
    begins : (s.first_end ≡ n.horizon) ⊎ (window_of n s.first_end ≡ s.first_end) → window_of n s.first_end ≡ s.first_end
    begins (inl same) = let ends = tiled.is.ends in absurd (omega (arith, ends, before, same))
    begins (inr is) = is

    window : IsWindow n s.first_end (window_end n s.first_end)
    window = let ends = tiled.is.ends in record { below = omega (arith, ends, before); begins = begins tiled.first; ends = refl }

    end : ℕ
    end = window_end n s.first_end

    by : (s.last_end ≡ n.horizon) ⊎ ((start : ℕ) × IsWindow n start s.last_end) → window_end n s.first_end ≤ s.last_end
    by (inl same) = omega (arith, same)
    by (inr found) = elim (cases_lt found.0 s.first_end) as (λ _. window_end n s.first_end ≤ s.last_end) [
      | inl earlier ↦
          let over = windows_apart n ok found.0 s.last_end s.first_end (window_end n s.first_end) found.1 window earlier in
          absurd (omega (arith, over, before))
      | inr not ↦ elim (cases_eq s.first_end found.0) as (λ _. window_end n s.first_end ≤ s.last_end) [
        | inl same ↦
            let e : window_end n s.first_end ≡ s.last_end = ap (window_end n) same ∙ sym found.1.ends in
            omega (arith, e)
        | inr other ↦
            let over = windows_apart n ok s.first_end (window_end n s.first_end) found.0 s.last_end window found.1 (omega (arith, not, other)) in
            let some = window_within n ok found.0 s.last_end found.1 in
            omega (arith, over, some.1)
      ]
    ]

    within : window_end n s.first_end ≤ s.last_end
    within = by tiled.last

pub rest_cases : (n : Circuit) (s : WorkSpan) → ((s.first_end < s.last_end) × (rest_of (least_delay n) n.horizon s ≡ next_of n s ∷ [])) ⊎ ((s.last_end ≤ s.first_end) × (rest_of (least_delay n) n.horizon s ≡ []))
rest_cases n s = by (nat_lt s.first_end s.last_end) refl
  where
    by : (b : Bool) → nat_lt s.first_end s.last_end ≡ b → ((s.first_end < s.last_end) × ((if b then next_of n s ∷ [] else []) ≡ next_of n s ∷ [])) ⊎ ((s.last_end ≤ s.first_end) × ((if b then next_of n s ∷ [] else []) ≡ []))
    by true e = inl (ltb-true s.first_end s.last_end e, refl)
    by false e = inr (ltb-false s.first_end s.last_end e, refl)

-- ---- the modules' times in work spans

abbrev pub IsOf : Circuit → WorkSpan → ℕ → ℕ → ℕ → Type 0
IsOf n s m from to = (s.«module».0 ≡ m) × IsPart n s from to

-- the module works from one time to before another in one of the work spans
abbrev pub IsInSome : Circuit → List WorkSpan → ℕ → ℕ → ℕ → Type 0
IsInSome n [] m from to = ⊥
IsInSome n (s ∷ q) m from to = IsOf n s m from to ⊎ IsInSome n q m from to

pub some_front : (n : Circuit) (q r : List WorkSpan) (m from to : ℕ) → IsInSome n q m from to → IsInSome n (q ++ r) m from to
some_front n [] r m from to has = absurd has
some_front n (s ∷ q) r m from to (inl here) = inl here
some_front n (s ∷ q) r m from to (inr later) = inr (some_front n q r m from to later)

pub some_back : (n : Circuit) (q r : List WorkSpan) (m from to : ℕ) → IsInSome n r m from to → IsInSome n (q ++ r) m from to
some_back n [] r m from to has = has
some_back n (s ∷ q) r m from to has = inr (some_back n q r m from to has)

pub some_cases : (n : Circuit) (q r : List WorkSpan) (m from to : ℕ) → IsInSome n (q ++ r) m from to → IsInSome n q m from to ⊎ IsInSome n r m from to
some_cases n [] r m from to has = inr has
some_cases n (s ∷ q) r m from to (inl here) = inl (inl here)
some_cases n (s ∷ q) r m from to (inr later) = elim (some_cases n q r m from to later) as (λ _. IsInSome n (s ∷ q) m from to ⊎ IsInSome n r m from to) [
  | inl front ↦ inl (inr front)
  | inr back ↦ inr back
]

-- what is in a work span is its first entry, or in what is left of it
pub part_cases : (n : Circuit) → IsCircuit n → (s : WorkSpan) → IsTiled n s → (m from to : ℕ) → IsOf n s m from to
    → ((s.«module».0 ≡ m) × (from ≡ s.from) × (to ≡ s.first_end)) ⊎ IsInSome n (rest_of (least_delay n) n.horizon s) m from to
part_cases n ok s tiled m from to is = by is.1
  where
    later : IsWindow n from to → s.first_end ≤ from → to ≤ s.last_end → IsInSome n (rest_of (least_delay n) n.horizon s) m from to
    later window begins ends = elim (rest_cases n s) as (λ _. IsInSome n (rest_of (least_delay n) n.horizon s) m from to) [
      | inl more ↦
          let goes = goes_on n ok s tiled more.0 in
          let part : IsPart n (next_of n s) from to = elim (cases_eq from s.first_end) as (λ _. IsPart n (next_of n s) from to) [
            | inl same ↦ inl (same, window.ends ∙ ap (window_end n) same)
            | inr other ↦ inr (window, windows_apart n ok s.first_end (window_end n s.first_end) from to goes.window window (omega (arith, begins, other)), ends)
          ] in
          subst (λ l. IsInSome n l m from to) (sym more.1) (inl (is.0, part))
      | inr none ↦ let within = window_within n ok from to window in absurd (omega (arith, none.0, within.1, begins, ends))
    ]

    by : IsPart n s from to → ((s.«module».0 ≡ m) × (from ≡ s.from) × (to ≡ s.first_end)) ⊎ IsInSome n (rest_of (least_delay n) n.horizon s) m from to
    by (inl first) = inl (is.0, first.0, first.1)
    by (inr other) = inr (later other.0 other.1 other.2)

pub part_rest : (n : Circuit) → IsCircuit n → (s : WorkSpan) → IsTiled n s → (m from to : ℕ) → IsInSome n (rest_of (least_delay n) n.horizon s) m from to → IsOf n s m from to
part_rest n ok s tiled m from to has = elim (rest_cases n s) as (λ _. IsOf n s m from to) [
  | inl more ↦ next (goes_on n ok s tiled more.0) (subst (λ l. IsInSome n l m from to) more.1 has)
  | inr none ↦ absurd (subst (λ l. IsInSome n l m from to) none.1 has)
]
  where
    next : GoesOn n s → IsInSome n (next_of n s ∷ []) m from to → IsOf n s m from to
    next goes (inl (part, inl first)) = (
      part,
      inr (
        subst (λ x. IsWindow n x to) (sym first.0) (subst (λ x. IsWindow n s.first_end x) (sym first.1) goes.window),
        let e = first.0 in omega (arith, e),
        let e = first.1 in let within = goes.within in omega (arith, e, within),
      ),
    )
    next goes (inl (part, inr other)) =
        let past = (window_within n ok s.first_end (window_end n s.first_end) goes.window).1 in
        (part, inr (other.0, let e = other.1 in omega (arith, e, past), other.2))
    next goes (inr none) = absurd none
