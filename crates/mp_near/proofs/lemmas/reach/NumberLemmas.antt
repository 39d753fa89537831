-- Numbers that are listed one after the other.
use Rattle.std.proofs.Common.{◌≡◌, ℕ, ◌+◌, ◌<◌, ◌≤◌, Bool, true, false, List, [], ◌∷◌, ◌++◌, ◌⊎◌, ◌==◌, length, slice_index_or, refl, ap, sym, ◌∙◌, arith, inl, inr}
use Rattle.std.proofs.lemmas.Bool.{cases_lt, cases_eq, eq-eqb, ne_eqb}
use Rattle.std.proofs.lemmas.List.{get_or_append_left, get_or_default, get_or_past, get_or_push, length_push}
use Rattle.mp_records.specs.lists.Replaced.{AreApart, IsElsewhere}
use Rattle.mp_partition.specs.runs.Marks.{is_marked}
use Rattle.mp_near.specs.reach.Numbers.{AreNumbered, number_at, place_at}

-- one place more
place_before : (places : List ℕ) (p x : ℕ) → x < length places → place_at (places ++ p ∷ []) x ≡ place_at places x
place_before places p x low = get_or_append_left places (p ∷ []) x x low

place_last : (places : List ℕ) (p x : ℕ) → length places ≡ x → place_at (places ++ p ∷ []) x ≡ p
place_last places p x size = get_or_push places p x x size

-- the next number isn't marked
pub numbered_same : (marks : List Bool) (i : ℕ) (numbers places : List ℕ) → is_marked marks i ≡ false → AreNumbered marks i numbers places → AreNumbered marks (i + 1) numbers (places ++ length numbers ∷ [])
numbered_same marks i numbers places not are = record {
  size = length_push places (length numbers) ∙ ap (λ k. k + 1) are.size;
  few = let few = are.few in omega arith;
  below = λ k d low. let less = are.below k d low in omega arith;
  marked = are.marked;
  placed = λ k d low. let less = are.below k d low in let size = are.size in place_before places (length numbers) (slice_index_or numbers k d) (omega arith) ∙ are.placed k d low;
  within = λ x low is. let below = earlier x low is in let size = are.size in let same : place_at (places ++ length numbers ∷ []) x ≡ place_at places x = place_before places (length numbers) x (omega arith) in let there = are.within x below is in omega (arith, same, there);
  found = λ x d low is. let below = earlier x low is in let size = are.size in
      ap (λ k. slice_index_or numbers k d) (place_before places (length numbers) x (omega arith)) ∙ are.found x d below is;
}
  where
    earlier : (x : ℕ) → x < i + 1 → is_marked marks x ≡ true → x < i
    earlier x low is = elim (cases_eq x i) as (λ _. x < i) [
      | inl one ↦ let other : is_marked marks x ≡ false = ap (λ k. is_marked marks k) one ∙ not in cc
      | inr other ↦ omega arith
    ]

-- the next number is marked
pub numbered_more : (marks : List Bool) (i : ℕ) (numbers places : List ℕ) → is_marked marks i ≡ true → AreNumbered marks i numbers places → AreNumbered marks (i + 1) (numbers ++ i ∷ []) (places ++ length numbers ∷ [])
numbered_more marks i numbers places is are = record {
  size = length_push places (length numbers) ∙ ap (λ k. k + 1) are.size;
  few = let few = are.few in let more = length_push numbers i in omega (arith, more);
  below = λ k d low. elim (which k low) as (λ _. slice_index_or (numbers ++ i ∷ []) k d < i + 1) [
    | inl here ↦ let same = before k d here in let less = are.below k d here in omega (arith, same, less)
    | inr last ↦ let same = ended k d last in omega (arith, same)
  ];
  marked = λ k d low. elim (which k low) as (λ _. is_marked marks (slice_index_or (numbers ++ i ∷ []) k d) ≡ true) [
    | inl here ↦ ap (λ x. is_marked marks x) (before k d here) ∙ are.marked k d here
    | inr last ↦ ap (λ x. is_marked marks x) (ended k d last) ∙ is
  ];
  placed = λ k d low. elim (which k low) as (λ _. place_at (places ++ length numbers ∷ []) (slice_index_or (numbers ++ i ∷ []) k d) ≡ k) [
    | inl here ↦
        let less = are.below k d here in let size = are.size in
        ap (λ x. place_at (places ++ length numbers ∷ []) x) (before k d here) ∙ place_before places (length numbers) (slice_index_or numbers k d) (omega arith) ∙ are.placed k d here
    | inr last ↦ ap (λ x. place_at (places ++ length numbers ∷ []) x) (ended k d last) ∙ place_last places (length numbers) i are.size ∙ last
  ];
  within = λ x low marked.
      let more = length_push numbers i in
      elim (cases_eq x i) as (λ _. place_at (places ++ length numbers ∷ []) x < length (numbers ++ i ∷ [])) [
        | inl one ↦ let at = place_last places (length numbers) x (are.size ∙ sym one) in omega (arith, at, more)
        | inr other ↦ let size = are.size in let at = place_before places (length numbers) x (omega arith) in let there = are.within x (omega arith) marked in omega (arith, at, more, there)
      ];
  found = λ x d low marked.
      elim (cases_eq x i) as (λ _. slice_index_or (numbers ++ i ∷ []) (place_at (places ++ length numbers ∷ []) x) d ≡ x) [
        | inl one ↦ ap (λ k. slice_index_or (numbers ++ i ∷ []) k d) (place_last places (length numbers) x (are.size ∙ sym one)) ∙ get_or_push numbers i d (length numbers) refl ∙ sym one
        | inr other ↦
            let size = are.size in
            ap (λ k. slice_index_or (numbers ++ i ∷ []) k d) (place_before places (length numbers) x (omega arith))
            ∙ get_or_append_left numbers (i ∷ []) d (place_at places x) (are.within x (omega arith) marked) ∙ are.found x d (omega arith) marked
      ];
}
  where
    which : (k : ℕ) → k < length (numbers ++ i ∷ []) → (k < length numbers) ⊎ (length numbers ≡ k)
    which k low = let more = length_push numbers i in elim (cases_lt k (length numbers)) as (λ _. (k < length numbers) ⊎ (length numbers ≡ k)) [
      | inl here ↦ inl here
      | inr past ↦ inr (omega (arith, more))
    ]

    before : (k d : ℕ) → k < length numbers → slice_index_or (numbers ++ i ∷ []) k d ≡ slice_index_or numbers k d
    before k d here = get_or_append_left numbers (i ∷ []) d k here

    ended : (k d : ℕ) → length numbers ≡ k → slice_index_or (numbers ++ i ∷ []) k d ≡ i
    ended k d last = get_or_push numbers i d k last

-- just what is marked has its number at its place
pub is_picked : (marks : List Bool) (numbers places : List ℕ) → AreNumbered marks (length marks) numbers places → (x : ℕ) → (number_at (length marks) numbers (place_at places x) == x) ≡ is_marked marks x
is_picked marks numbers places are x = elim (cases_lt x (length marks)) as (λ _. (number_at far numbers (place_at places x) == x) ≡ is_marked marks x) [
  | inl low ↦ within low (is_marked marks x) refl
  | inr past ↦
      let none : is_marked marks x ≡ false = get_or_past marks x false past in
      let place : place_at places x ≡ x = get_or_past places x x (let size = are.size in omega arith) in
      ne_eqb (number_at far numbers (place_at places x)) x (λ same. beyond past (ap (λ k. number_at far numbers k) (sym place) ∙ same)) ∙ sym none
]
  where
    far : ℕ
    far = length marks

    beyond : far ≤ x → number_at far numbers x ≡ x → ⊥
    beyond past same = elim (cases_lt x (length numbers)) as (λ _. ⊥) [
      | inl here ↦ let less = are.below x (far + x + 1) here in let no : ⊥ = omega arith in no
      | inr none ↦ let at : number_at far numbers x ≡ far + x + 1 = get_or_past numbers x (far + x + 1) none in let no : ⊥ = omega arith in no
    ]

    within : x < far → (b : Bool) → is_marked marks x ≡ b → (number_at far numbers (place_at places x) == x) ≡ is_marked marks x
    within low true is = eq-eqb (number_at far numbers (place_at places x)) x (are.found x (far + place_at places x + 1) low is) ∙ sym is
    within low false not =
        ne_eqb (number_at far numbers (place_at places x)) x (λ same. elim (cases_lt (place_at places x) (length numbers)) as (λ _. ⊥) [
          | inl here ↦ let marked = are.marked (place_at places x) (far + place_at places x + 1) here in let is : is_marked marks x ≡ true = ap (λ k. is_marked marks k) (sym same) ∙ marked in cc
          | inr none ↦ let at : number_at far numbers (place_at places x) ≡ far + place_at places x + 1 = get_or_past numbers (place_at places x) (far + place_at places x + 1) none in let no : ⊥ = omega arith in no
        ]) ∙ sym not

-- a number that isn't listed isn't picked
pub not_picked : (all : List Bool) (far : ℕ) (numbers places : List ℕ) → AreNumbered all far numbers places → (x : ℕ) → IsElsewhere numbers x → (number_at far numbers (place_at places x) == x) ≡ false
not_picked all far numbers places are x not = ne_eqb (number_at far numbers (place_at places x)) x (λ same. elim (cases_lt (place_at places x) (length numbers)) as (λ _. ⊥) [
  | inl here ↦ not (place_at places x) here (get_or_default numbers (place_at places x) 0 (far + place_at places x + 1) here ∙ same)
  | inr past ↦
      let at : number_at far numbers (place_at places x) ≡ far + place_at places x + 1 = get_or_past numbers (place_at places x) (far + place_at places x + 1) past in
      elim (cases_lt x far) as (λ _. ⊥) [
        | inl low ↦ let no : ⊥ = omega (arith, at, same, low) in no
        | inr high ↦ let size = are.size in let place : place_at places x ≡ x = get_or_past places x x (omega arith) in let no : ⊥ = omega (arith, at, same, place) in no
      ]
])

-- a number at its place is picked
pub picked_at : (far : ℕ) (numbers : List ℕ) (k x : ℕ) → k < length numbers → slice_index_or numbers k 0 ≡ x → number_at far numbers k ≡ x
picked_at far numbers k x low is = get_or_default numbers k (far + k + 1) 0 low ∙ is

-- the number is listed at a place
pub record IsListed (numbers : List ℕ) (x : ℕ) : Type 0 where
  pub place : ℕ
  pub low : place < length numbers
  pub at : slice_index_or numbers place 0 ≡ x

-- a number is listed or not
pub listed_or_not : (all : List Bool) (far : ℕ) (numbers places : List ℕ) → AreNumbered all far numbers places → (x : ℕ) → IsListed numbers x ⊎ IsElsewhere numbers x
listed_or_not all far numbers places are x = elim (cases_lt (place_at places x) (length numbers)) as (λ _. IsListed numbers x ⊎ IsElsewhere numbers x) [
  | inl here ↦ elim (cases_eq (slice_index_or numbers (place_at places x) 0) x) as (λ _. IsListed numbers x ⊎ IsElsewhere numbers x) [
    | inl same ↦ inl (record { place = place_at places x; low = here; at = same })
    | inr other ↦ inr (λ k low at. other (ap (λ (j : ℕ). slice_index_or numbers j 0) (placed k low at) ∙ at))
  ]
  | inr past ↦ inr (λ k low at. let place = placed k low at in let no : ⊥ = omega (arith, place, low, past) in no)
]
  where
    placed : (k : ℕ) → k < length numbers → slice_index_or numbers k 0 ≡ x → place_at places x ≡ k
    placed k low at = sym (ap (λ (y : ℕ). place_at places y) at) ∙ are.placed k 0 low

-- no number is listed twice
pub numbers_apart : (all : List Bool) (far : ℕ) (numbers places : List ℕ) → AreNumbered all far numbers places → AreApart numbers
numbers_apart all far numbers places are j k low_j low_k same = sym (are.placed j 0 low_j) ∙ ap (λ (y : ℕ). place_at places y) same ∙ are.placed k 0 low_k
