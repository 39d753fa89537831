-- Lists of slots, mapped and written.
use Rattle.std.proofs.Common.{◌≡◌, ℕ, ◌+◌, ◌<◌, List, [], ◌∷◌, ◌++◌, Option, Some, None, IsSome, option_map, map, take, drop, length, slice_index_or, slice_set, zero, suc, refl, ap, arith, inl, inr}
use Rattle.std.proofs.lemmas.Bool.{cases_lt}
use Rattle.std.proofs.lemmas.List.{get_or_past}
use Rattle.mp_netlist.specs.Slots.{slot_at}

pub slot_at-map : {A B : Type 0} (f : A → B) (xs : List (Option A)) (i : ℕ) → slot_at (map (option_map f) xs) i ≡ option_map f (slot_at xs i)
slot_at-map f [] i = refl
slot_at-map f (x ∷ xs) zero = refl
slot_at-map f (x ∷ xs) (suc i) = slot_at-map f xs i

-- the element that is next, where those before it were mapped
pub index-mapped : {A : Type 0} (f : A → A) (xs : List A) (i : ℕ) (d : A) → slice_index_or (map f (take i xs) ++ drop i xs) i d ≡ slice_index_or xs i d
index-mapped f [] zero d = refl
index-mapped f [] (suc i) d = refl
index-mapped f (x ∷ xs) zero d = refl
index-mapped f (x ∷ xs) (suc i) d = index-mapped f xs i d

-- one more is mapped
pub set-mapped : {A : Type 0} (f : A → A) (xs : List A) (i : ℕ) (d : A) → i < length xs
    → slice_set (map f (take i xs) ++ drop i xs) i (f (slice_index_or xs i d)) ≡ map f (take (i + 1) xs) ++ drop (i + 1) xs
set-mapped f [] i d within = absurd (omega arith)
set-mapped f (x ∷ xs) zero d within = refl
set-mapped f (x ∷ xs) (suc i) d within =
    let e : suc i + 1 ≡ suc (i + 1) = omega arith in
    rw e (ap (λ l. f x ∷ l) (set-mapped f xs i d (omega arith)))

-- a slot in which something stands is within the slots
pub slot_within : {A : Type 0} (xs : List (Option A)) (i : ℕ) (x : A) → slot_at xs i ≡ Some x → i < length xs
slot_within xs i x is =
    elim (cases_lt i (length xs)) as (λ _. i < length xs) [
      | inl within ↦ within
      | inr past ↦ let none = get_or_past xs i None past in cc
    ]

pub no_some : {A : Type 0} (slot : Option A) → slot ≡ None → IsSome slot → ⊥
no_some None is some = cc
no_some (Some x) is some = cc

pub some_within : {A : Type 0} (xs : List (Option A)) (i : ℕ) → IsSome (slot_at xs i) → i < length xs
some_within xs i some =
    elim (cases_lt i (length xs)) as (λ _. i < length xs) [
      | inl within ↦ within
      | inr past ↦ let none = get_or_past xs i None past in absurd (no_some (slot_at xs i) none some)
    ]
