-- Sets of inputs in lists of such sets.
use Rattle.std.proofs.Common.{◌≡◌, ℕ, ◌==◌, ◌⊎◌, inl, inr, Bool, true, false, not, List, [], ◌∷◌, ◌++◌, refl, ap, sym, subst, eq-eqb}
use Rattle.mp_holding.specs.Holding.{where_so}
use Rattle.mp_holding.specs.Laws.{HasSet, AreSame}

pub has_left : (xs ys : List (List ℕ)) (set : List ℕ) → HasSet xs set → HasSet (xs ++ ys) set
has_left [] ys set has = absurd has
has_left (x ∷ xs) ys set (inl same) = inl same
has_left (x ∷ xs) ys set (inr later) = inr (has_left xs ys set later)

pub has_right : (xs ys : List (List ℕ)) (set : List ℕ) → HasSet ys set → HasSet (xs ++ ys) set
has_right [] ys set has = has
has_right (x ∷ xs) ys set has = inr (has_right xs ys set has)

pub has_cases : (xs ys : List (List ℕ)) (set : List ℕ) → HasSet (xs ++ ys) set → HasSet xs set ⊎ HasSet ys set
has_cases [] ys set has = inr has
has_cases (x ∷ xs) ys set (inl same) = inl (inl same)
has_cases (x ∷ xs) ys set (inr later) = by (has_cases xs ys set later)
  where
    by : HasSet xs set ⊎ HasSet ys set → HasSet (x ∷ xs) set ⊎ HasSet ys set
    by (inl left) = inl (inr left)
    by (inr right) = inr right

pub only : (first set : List ℕ) → HasSet (first ∷ []) set → first ≡ set
only first set (inl same) = same
only first set (inr never) = absurd never

pub where_is : (is : Bool) (one set : List ℕ) → HasSet (where_so is one) set → (is ≡ true) × (one ≡ set)
where_is true one set has = (refl, only one set has)
where_is false one set has = absurd has

pub has_where : (is : Bool) (one set : List ℕ) → is ≡ true → one ≡ set → HasSet (where_so is one) set
has_where true one set so same = inl same
has_where false one set so same = let wrong : ⊥ = cc in absurd wrong

pub where_stays : (old new : Bool) (one set : List ℕ) → new ≡ old → HasSet (where_so old one) set → HasSet (where_so new one) set
where_stays old new one set same has = subst (λ b. HasSet (where_so b one) set) (sym same) has

-- ---- levels

pub same_for : (one set x y : List ℕ) → one ≡ set → AreSame set x y → AreSame one x y
same_for one set x y is same = subst (λ s. AreSame s x y) (sym is) same

-- an input that keeps its level has no event
pub no_event : (a b : ℕ) → b ≡ a → not (a == b) ≡ false
no_event a b same = ap not (eq-eqb a b (sym same))
