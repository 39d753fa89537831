-- Lists from whose end one is taken, or to which one is added.
use Rattle.std.proofs.Common.{◌≡◌, ◌+◌, ◌<◌, ℕ, zero, suc, List, [], ◌∷◌, ◌++◌, All, subst, length, length-append, slice_index_or, arith, ◌∙◌, ap}
use Rattle.std.proofs.lemmas.List.{get_or_append_left}
use Rattle.mp_version.specs.Stories.{Story}
use Rattle.mp_desk.specs.Holders.{Working, fresh_designer, AreFresh}

-- it holds of those before the others
pub all_front : {A : Type 0} (P : A → Type 0) (all xs ys : List A) → all ≡ xs ++ ys → All P all → All P xs
all_front {A} P all xs ys parts holds k d within =
    let long : length all ≡ length (xs ++ ys) = ap length parts in
    subst P (ap (λ (l : List A). slice_index_or l k d) parts ∙ get_or_append_left xs ys d k within) (holds k d (omega (arith, within, long, length-append xs ys)))

-- the element at each place up to the last
placed : {A : Type 0} (f : ℕ → A) (xs : List A) (x : A) → ((k : ℕ) (d : A) → k < length xs → slice_index_or xs k d ≡ f k) → x ≡ f (length xs)
    → (k : ℕ) (d : A) → k < length (xs ++ x ∷ []) → slice_index_or (xs ++ x ∷ []) k d ≡ f k
placed f [] x before last zero d within = last
placed f [] x before last (suc k) d within = absurd (omega (arith, within))
placed f (y ∷ xs) x before last zero d within = before 0 d (omega arith)
placed f (y ∷ xs) x before last (suc k) d within =
    placed (λ j. f (suc j)) xs x (λ j e w. before (suc j) e (omega (arith, w))) last k d (omega (arith, within))

-- one designer more has just come
pub one_more_fresh : (s : Story) (ds : List Working) (d : Working) → AreFresh s ds → d ≡ fresh_designer (length ds + 1) s → AreFresh s (ds ++ d ∷ [])
one_more_fresh s ds d before last = placed (λ k. fresh_designer (k + 1) s) ds d before last
