-- Lemmas on what stands in a list.
use Rattle.std.proofs.Common.{◌≡◌, ℕ, ◌+◌, ◌<◌, ◌≤◌, ◌⊎◌, inl, inr, ⊎_elim, Bool, true, false, cond, List, [], ◌∷◌, map, length, slice_index_or, zero, suc, refl, ap, sym, subst, ◌∙◌, true≢false, arith, Contains, filter, flat_map}
use Rattle.std.specs.Prelude.{◌||◌}
use Rattle.std.specs.List.{list_any, range_with_len}
use Rattle.std.proofs.lemmas.Bool.{cases_eq}
use Rattle.std.proofs.lemmas.List.Elements.{Contains-append_left, Contains-append_right, Contains-append_cases}

module _ {X : Type 0} where
  pub contains_here : (x : X) (xs : List X) → Contains (x ∷ xs) x
  contains_here x xs = (0, omega arith, refl)

  pub contains_there : (x y : X) (xs : List X) → Contains xs x → Contains (y ∷ xs) x
  contains_there x y xs h = (suc h.0, omega (arith, h.1), h.2)

  pub contains_cases : (x y : X) (xs : List X) → Contains (y ∷ xs) x → (y ≡ x) ⊎ Contains xs x
  contains_cases x y xs h = by h.0 h.1 h.2
    where
      by : (k : ℕ) → k < length (y ∷ xs) → slice_index_or (y ∷ xs) k x ≡ x → (y ≡ x) ⊎ Contains xs x
      by zero low is = inl is
      by (suc k) low is = inr (k, omega (arith, low), is)

  pub contains_filter : (p : X → Bool) (x : X) (xs : List X) → Contains xs x → p x ≡ true → Contains (filter p xs) x
  contains_filter p x [] h passes = absurd (omega (arith, h.1))
  contains_filter p x (y ∷ ys) h passes = ⊎_elim (λ same. first (p y) (ap p same ∙ passes) same) (λ later. kept (p y) (contains_filter p x ys later passes)) (contains_cases x y ys h)
    where
      first : (b : Bool) → b ≡ true → y ≡ x → Contains (cond b (y ∷ filter p ys) (filter p ys)) x
      first true passing same = (0, omega arith, same)
      first false fails same = absurd (true≢false (sym fails))

      kept : (b : Bool) → Contains (filter p ys) x → Contains (cond b (y ∷ filter p ys) (filter p ys)) x
      kept true later = contains_there x y (filter p ys) later
      kept false later = later

  pub filter_contains : (p : X → Bool) (x : X) (xs : List X) → Contains (filter p xs) x → p x ≡ true
  filter_contains p x [] h = absurd (omega (arith, h.1))
  filter_contains p x (y ∷ ys) h = by (p y) refl h (filter_contains p x ys)
    where
      by : (b : Bool) → p y ≡ b → Contains (cond b (y ∷ filter p ys) (filter p ys)) x → (Contains (filter p ys) x → p x ≡ true) → p x ≡ true
      by true passes at others = ⊎_elim (λ same. ap p (sym same) ∙ passes) others (contains_cases x y (filter p ys) at)
      by false fails at others = others at

  -- a test that an element passes
  pub any_passes : (p : X → Bool) (x : X) (xs : List X) → Contains xs x → p x ≡ true → list_any p xs ≡ true
  any_passes p x [] h passes = absurd (omega (arith, h.1))
  any_passes p x (y ∷ ys) h passes = ⊎_elim (λ same. first (p y) (ap p same ∙ passes)) (λ later. after (p y) (any_passes p x ys later passes)) (contains_cases x y ys h)
    where
      first : (b : Bool) → b ≡ true → b || list_any p ys ≡ true
      first true passing = refl
      first false fails = absurd (true≢false (sym fails))

      after : (b : Bool) → list_any p ys ≡ true → b || list_any p ys ≡ true
      after true later = refl
      after false later = later

  pub passes_any : (p : X → Bool) (xs : List X) → list_any p xs ≡ true → (x : X) × Contains xs x × (p x ≡ true)
  passes_any p [] fails = absurd (true≢false (sym fails))
  passes_any p (y ∷ ys) some = by (p y) refl some (passes_any p ys)
    where
      by : (b : Bool) → p y ≡ b → b || list_any p ys ≡ true → (list_any p ys ≡ true → (x : X) × Contains ys x × (p x ≡ true)) → (x : X) × Contains (y ∷ ys) x × (p x ≡ true)
      by true passes at others = (y, contains_here y ys, passes)
      by false fails at others = let later = others at in (later.0, contains_there later.0 y ys later.1, later.2)

module _ {X Y : Type 0} where
  pub contains_map : (f : X → Y) (x : X) (xs : List X) → Contains xs x → Contains (map f xs) (f x)
  contains_map f x [] h = absurd (omega (arith, h.1))
  contains_map f x (y ∷ ys) h =
      ⊎_elim (λ same. let is : f y ≡ f x = ap f same in (0, omega arith, is)) (λ later. contains_there (f x) (f y) (map f ys) (contains_map f x ys later)) (contains_cases x y ys h)

  pub map_contains : (f : X → Y) (y : Y) (xs : List X) → Contains (map f xs) y → (x : X) × Contains xs x × (f x ≡ y)
  map_contains f y [] h = absurd (omega (arith, h.1))
  map_contains f y (x ∷ xs) h =
      ⊎_elim (λ same. (x, contains_here x xs, same)) (λ later. let found = map_contains f y xs later in (found.0, contains_there found.0 x xs found.1, found.2)) (contains_cases y (f x) (map f xs) h)

  pub contains_flat_map : (f : X → List Y) (x : X) (y : Y) (xs : List X) → Contains xs x → Contains (f x) y → Contains (flat_map f xs) y
  contains_flat_map f x y [] h inside = absurd (omega (arith, h.1))
  contains_flat_map f x y (z ∷ zs) h inside =
      ⊎_elim
      (λ same. Contains-append_left (f z) (flat_map f zs) y (subst (λ (w : X). Contains (f w) y) (sym same) inside))
      (λ later. Contains-append_right (f z) (flat_map f zs) y (contains_flat_map f x y zs later inside))
      (contains_cases x z zs h)

  pub flat_map_contains : (f : X → List Y) (y : Y) (xs : List X) → Contains (flat_map f xs) y → (x : X) × Contains xs x × Contains (f x) y
  flat_map_contains f y [] h = absurd (omega (arith, h.1))
  flat_map_contains f y (z ∷ zs) h =
      ⊎_elim
      (λ inside. (z, contains_here z zs, inside))
      (λ later. let found = flat_map_contains f y zs later in (found.0, contains_there found.0 z zs found.1, found.2))
      (Contains-append_cases (f z) (flat_map f zs) y h)

pub contains_range : (a n t : ℕ) → a ≤ t → t < a + n → Contains (range_with_len a n) t
contains_range a zero t low high = absurd (omega arith)
contains_range a (suc n) t low high =
    ⊎_elim (λ same. (0, omega arith, sym same)) (λ other. contains_there t a (range_with_len (a + 1) n) (contains_range (a + 1) n t (omega (arith, other)) (omega arith))) (cases_eq t a)

pub range_contains : (a n t : ℕ) → Contains (range_with_len a n) t → (a ≤ t) × (t < a + n)
range_contains a zero t h = absurd (omega (arith, h.1))
range_contains a (suc n) t h =
    ⊎_elim (λ same. (omega arith, omega arith)) (λ later. let found = range_contains (a + 1) n t later in (omega (arith, found.0), omega (arith, found.1))) (contains_cases t a (range_with_len (a + 1) n) h)
