-- Lists whose elements rise by a relation.
use Rattle.std.proofs.Common.{◌≡◌, ◌↔◌, ⊎_elim, ℕ, ◌+◌, ◌<◌, Bool, List, [], ◌∷◌, ◌++◌, map, slice_index_or, zero, suc, refl, sym, ap, subst, ◌∙◌, arith, Contains, filter, flat_map}
use Rattle.std.specs.List.{AllPairs, range_with_len}
use Rattle.std.proofs.lemmas.List.{get_or_default}
use Rattle.std.proofs.lemmas.List.Kept.{AllPairs-cons, AllPairs-filter}
use Rattle.std.proofs.lemmas.List.Elements.{Contains-append_cases}
use Rattle.mp_model.proofs.MemberLemmas.{contains_here, contains_there, contains_cases, map_contains, flat_map_contains, range_contains}

module _ {X : Type 0} (R : X → X → Type 0) where
  -- each element is below those behind it
  abbrev pub Rises : List X → Type 0
  Rises [] = Unit {0}
  Rises (x ∷ xs) = ((y : X) → Contains xs y → R x y) × Rises xs

  pub rises_pairs : (xs : List X) → Rises xs → AllPairs R xs
  rises_pairs [] r = λ i j d lt within. absurd (omega arith)
  rises_pairs (x ∷ xs) r =
      AllPairs-cons R x xs (λ k d within. r.0 (slice_index_or xs k d) (k, within, get_or_default xs k (slice_index_or xs k d) d within)) (rises_pairs xs r.1)

  pub pairs_rise : (xs : List X) → AllPairs R xs → Rises xs
  pairs_rise [] pairs = tt
  pairs_rise (x ∷ xs) pairs = (
    λ y at. subst (R x) at.2 (pairs 0 (suc at.0) y (omega arith) (omega (arith, at.1))),
    pairs_rise xs (λ i j d lt within. pairs (suc i) (suc j) d (omega arith) (omega arith)),
  )

  pub rises_append : (xs ys : List X) → Rises xs → Rises ys → ((x y : X) → Contains xs x → Contains ys y → R x y) → Rises (xs ++ ys)
  rises_append [] ys r s across = s
  rises_append (x ∷ xs) ys r s across = (
    λ y at. ⊎_elim (r.0 y) (across x y (contains_here x xs)) (Contains-append_cases xs ys y at),
    rises_append xs ys r.1 s (λ a b first second. across a b (contains_there a x xs first) second),
  )

  pub rises_filter : (p : X → Bool) (xs : List X) → Rises xs → Rises (filter p xs)
  rises_filter p xs r = pairs_rise (filter p xs) (AllPairs-filter R p xs (rises_pairs xs r))

  -- two lists that rise and have the same elements are the same, where no two elements are below one another
  pub one_list : ((x y : X) → R x y → R y x → ⊥) → (xs ys : List X) → Rises xs → Rises ys → ((x : X) → Contains xs x ↔ Contains ys x) → xs ≡ ys
  one_list one_way [] [] r s same = refl
  one_list one_way [] (y ∷ ys) r s same = absurd (omega (arith, ((same y).1 (contains_here y ys)).1))
  one_list one_way (x ∷ xs) [] r s same = absurd (omega (arith, ((same x).0 (contains_here x xs)).1))
  one_list one_way (x ∷ xs) (y ∷ ys) r s same = ap (λ z. z ∷ xs) first ∙ ap (λ zs. y ∷ zs) (one_list one_way xs ys r.1 s.1 rest)
    where
      behind : Contains ys x → x ≡ y
      behind later = ⊎_elim (λ e. e) (λ also. absurd (one_way x y (r.0 y also) (s.0 x later))) (contains_cases y x xs ((same y).1 (contains_here y ys)))

      first : x ≡ y
      first = ⊎_elim (λ e. sym e) behind (contains_cases x y ys ((same x).0 (contains_here x xs)))

      to : (z : X) → Contains xs z → Contains ys z
      to z at =
          ⊎_elim (λ e. let own : R x x = subst (R x) (sym (first ∙ e)) (r.0 z at) in absurd (one_way x x own own)) (λ later. later)
          (contains_cases z y ys ((same z).0 (contains_there z x xs at)))

      back : (z : X) → Contains ys z → Contains xs z
      back z at =
          ⊎_elim (λ e. let own : R y y = subst (R y) (sym (sym first ∙ e)) (s.0 z at) in absurd (one_way y y own own)) (λ later. later)
          (contains_cases z x xs ((same z).1 (contains_there z y ys at)))

      rest : (z : X) → Contains xs z ↔ Contains ys z
      rest z = (to z, back z)

module _ {X Y : Type 0} (S : X → X → Type 0) (R : Y → Y → Type 0) where
  pub rises_map : (f : X → Y) → ((a b : X) → S a b → R (f a) (f b)) → (xs : List X) → Rises S xs → Rises R (map f xs)
  rises_map f each [] r = tt
  rises_map f each (x ∷ xs) r = (
    λ y at. let found = map_contains f y xs at in subst (R (f x)) found.2 (each x found.0 (r.0 found.0 found.1)),
    rises_map f each xs r.1,
  )

  pub rises_flat_map : (f : X → List Y) → ((x : X) → Rises R (f x)) → ((x z : X) (a b : Y) → S x z → Contains (f x) a → Contains (f z) b → R a b)
      → (xs : List X) → Rises S xs → Rises R (flat_map f xs)
  rises_flat_map f each across [] r = tt
  rises_flat_map f each across (x ∷ xs) r =
      rises_append R (f x) (flat_map f xs) (each x) (rises_flat_map f each across xs r.1)
      (λ a b first second. let found = flat_map_contains f b xs second in across x found.0 a b (r.0 found.0 found.1) first found.2)

pub rises_range : (a n : ℕ) → Rises (λ (x y : ℕ). x < y) (range_with_len a n)
rises_range a zero = tt
rises_range a (suc n) = (λ y at. let within = range_contains (a + 1) n y at in omega (arith, within.0), rises_range (a + 1) n)
