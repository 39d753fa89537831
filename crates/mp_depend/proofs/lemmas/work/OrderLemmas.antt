-- Entries in order.
use Rattle.std.proofs.Common.{◌≡◌, ◌⊎◌, ℕ, ◌+◌, ◌<◌, List, [], ◌∷◌, length, slice_index_or, zero, suc, refl, ap, sym, subst, ◌∙◌, arith, inl, inr}
use Rattle.std.specs.List.{Contains}
use Rattle.mp_depend.specs.declared.work.work_entry.WorkEntry.{WorkEntry}
use Rattle.mp_depend.specs.work.Work.{ComesBefore, IsOnlyWork}

abbrev pub IsOrdered : List WorkEntry → Type 0
IsOrdered xs = (k : ℕ) (d : WorkEntry) → k + 1 < length xs → ComesBefore (slice_index_or xs k d) (slice_index_or xs (k + 1) d)

pub joined : (e f g : WorkEntry) → ComesBefore e f → ComesBefore f g → ComesBefore e g
joined e f g (inl a) (inl b) = inl (omega (arith, a, b))
joined e f g (inl a) (inr b) = inl (omega (arith, a, b.0))
joined e f g (inr a) (inl b) = inl (omega (arith, a.0, b))
joined e f g (inr a) (inr b) = inr (a.0 ∙ b.0, omega (arith, a.1, b.1))

pub never_itself : (e : WorkEntry) → ComesBefore e e → ⊥
never_itself e (inl a) = omega (arith, a)
never_itself e (inr a) = omega (arith, a.1)

pub contains_cases : (x : WorkEntry) (xs : List WorkEntry) (e : WorkEntry) → Contains (x ∷ xs) e → (x ≡ e) ⊎ Contains xs e
contains_cases x xs e has = by has.0 has.1 has.2
  where
    by : (k : ℕ) → k < length (x ∷ xs) → slice_index_or (x ∷ xs) k e ≡ e → (x ≡ e) ⊎ Contains xs e
    by zero within is = inl is
    by (suc k) within is = inr (k, omega (arith, within), is)

pub contains_first : (x : WorkEntry) (xs : List WorkEntry) → Contains (x ∷ xs) x
contains_first x xs = (0, omega arith, refl)

pub contains_later : (x : WorkEntry) (xs : List WorkEntry) (e : WorkEntry) → Contains xs e → Contains (x ∷ xs) e
contains_later x xs e has = (suc has.0, omega (arith, has.1), has.2)

pub contains_none : (e : WorkEntry) → Contains (let none : List WorkEntry = [] in none) e → ⊥
contains_none e has = omega (arith, has.1)

others_ordered : (x : WorkEntry) (xs : List WorkEntry) → IsOrdered (x ∷ xs) → IsOrdered xs
others_ordered x xs ordered k d within =
    let e : suc k + 1 ≡ suc (k + 1) = omega arith in
    subst (λ j. ComesBefore (slice_index_or xs k d) (slice_index_or (x ∷ xs) j d)) e (ordered (suc k) d (omega (arith, within)))

-- the first comes before all others
comes_first : (x : WorkEntry) (xs : List WorkEntry) → IsOrdered (x ∷ xs) → (e : WorkEntry) → Contains xs e → ComesBefore x e
comes_first x [] ordered e has = absurd (contains_none e has)
comes_first x (y ∷ ys) ordered e has =
    let next : ComesBefore x y = ordered 0 x (omega arith) in
    elim (contains_cases y ys e has) as (λ _. ComesBefore x e) [
      | inl is ↦ subst (ComesBefore x) is next
      | inr later ↦ joined x y e next (comes_first y ys (others_ordered x (y ∷ ys) ordered) e later)
    ]

-- two lists in order that have the same entries begin with one entry, and go on with the same ones
same_first : (x y : WorkEntry) (xs ys : List WorkEntry) → IsOrdered (x ∷ xs) → IsOrdered (y ∷ ys) → Contains (y ∷ ys) x → Contains (x ∷ xs) y → x ≡ y
same_first x y xs ys one other has had = elim (contains_cases y ys x has) as (λ _. x ≡ y) [
  | inl is ↦ sym is
  | inr later ↦ elim (contains_cases x xs y had) as (λ _. x ≡ y) [
    | inl is ↦ is
    | inr after ↦ absurd (never_itself x (joined x y x (comes_first x xs one y after) (comes_first y ys other x later)))
  ]
]

same_others : (x y : WorkEntry) (xs ys : List WorkEntry) → x ≡ y → IsOrdered (x ∷ xs) → (e : WorkEntry) → Contains xs e → Contains (y ∷ ys) e → Contains ys e
same_others x y xs ys same ordered e has found = elim (contains_cases y ys e found) as (λ _. Contains ys e) [
  | inl is ↦ absurd (never_itself x (subst (ComesBefore x) (sym is ∙ sym same) (comes_first x xs ordered e has)))
  | inr later ↦ later
]

one_list : (xs ys : List WorkEntry) → IsOrdered xs → IsOrdered ys → ((e : WorkEntry) → Contains xs e → Contains ys e) → ((e : WorkEntry) → Contains ys e → Contains xs e) → xs ≡ ys
one_list [] [] one other there back = refl
one_list [] (y ∷ ys) one other there back = absurd (contains_none y (back y (contains_first y ys)))
one_list (x ∷ xs) [] one other there back = absurd (contains_none x (there x (contains_first x xs)))
one_list (x ∷ xs) (y ∷ ys) one other there back =
    let same = same_first x y xs ys one other (there x (contains_first x xs)) (back y (contains_first y ys)) in
    let rest = one_list xs ys (others_ordered x xs one) (others_ordered y ys other)
    (λ e has. same_others x y xs ys same one e has (there e (contains_later x xs e has)))
    (λ e has. same_others y x ys xs (sym same) other e has (back e (contains_later y ys e has))) in
    ap (λ e. e ∷ xs) same ∙ ap (λ es. y ∷ es) rest

pub only_work : IsOnlyWork
only_work old new work other one two = one_list work other one.order two.order (λ e has. (two.entries e).1 ((one.entries e).0 has)) (λ e has. (one.entries e).1 ((two.entries e).0 has))
