-- Those who sit at a desk, as lists.
use Rattle.std.proofs.Common.{◌≡◌, ◌+◌, ◌<◌, ◌≤◌, ℕ, zero, suc, List, [], ◌∷◌, ◌++◌, length, map, slice_index_or, All, refl, sym, ap, subst, ◌∙◌, append_assoc, length-append, arith}
use Rattle.std.proofs.lemmas.List.{map-append, length-map}
use mathlib.Core.List.{IsPrefix}
use Rattle.mp_version.specs.Stories.{Story}
use Rattle.mp_version.specs.Extending.{Extends}
use Rattle.mp_desk.specs.Holders.{Working, Seeing, fresh_viewer, AreFresh, ExtendsEach, BeginWithEach}
use Rattle.mp_meeting.specs.Sittings.{DesignerTally, begun}
use Rattle.mp_meeting.specs.declared.tally.Tally.{Tally}
use Rattle.mp_meeting.specs.Seats.{working, HasAdjourned}
use Rattle.mp_seats.specs.Steps.{Seated}
use Rattle.mp_seats.specs.hosting.Guests.{sitter, looker, just_looking, HaveCome}

-- one element more on both sides
pub both_more : {A B C : Type 0} (f : A → C) (g : B → C) (xs zs : List A) (x : A) (ys : List B) (y : B) → zs ≡ xs ++ x ∷ [] → map f xs ≡ map g ys → f x ≡ g y
    → map f zs ≡ map g (ys ++ y ∷ [])
both_more f g xs zs x ys y pushed before same =
    ap (map f) pushed ∙ map-append f xs (x ∷ []) ∙ ap (λ l. l ++ f x ∷ []) before ∙ ap (λ z. map g ys ++ z ∷ []) same ∙ sym (map-append g ys (y ∷ []))

-- one element more that is done, and one fewer that is left
pub one_placed : {A B : Type 0} (f : B → A) (done done' : List B) (left left' : List A) (x : A) (y : B) (all : List A) → done' ≡ done ++ y ∷ [] → left ≡ x ∷ left' → f y ≡ x
    → map f done ++ left ≡ all → map f done' ++ left' ≡ all
one_placed f done done' left left' x y all pushed taken same before =
    ap (λ l. map f l ++ left') pushed ∙ ap (λ l. l ++ left') (map-append f done (y ∷ [])) ∙ append_assoc (map f done) (f y ∷ []) left' ∙ ap (λ z. map f done ++ z ∷ left') same
    ∙ ap (λ l. map f done ++ l) (sym taken) ∙ before

through : {A B C : Type 0} (f : B → C) (g : A → B) (xs : List A) → map (λ x. f (g x)) xs ≡ map f (map g xs)
through f g [] = refl
through f g (x ∷ xs) = ap (λ l. f (g x) ∷ l) (through f g xs)

-- what is seen of those inside is seen of those outside
pub seen_through : {A B C : Type 0} (f : B → C) (g : A → B) (xs : List A) (ys : List B) → map g xs ≡ ys → map (λ x. f (g x)) xs ≡ map f ys
seen_through f g xs ys same = through f g xs ∙ ap (map f) same

-- as many as came
pub as_many : {A B C : Type 0} (f : A → C) (g : B → C) (xs : List A) (ys : List B) → map f xs ≡ map g ys → length xs ≡ length ys
as_many f g xs ys same = sym (length-map xs f) ∙ ap (λ l. length l) same ∙ length-map ys g

pub as_many_of : {A B : Type 0} (f : A → B) (xs : List A) (ys : List B) → map f xs ≡ ys → length xs ≡ length ys
as_many_of f xs ys same = sym (length-map xs f) ∙ ap (λ l. length l) same

module _ {A : Type 0} (P : A → Type 0) where
  -- what holds of all holds of those before the last
  pub front_all : (xs : List A) (x : A) → All P (xs ++ x ∷ []) → All P xs
  front_all [] x h k d within = absurd (omega (arith, within))
  front_all (y ∷ ys) x h zero d within = h 0 d (omega arith)
  front_all (y ∷ ys) x h (suc k) d within = front_all ys x (λ j e w. h (suc j) e (omega (arith, w))) k d (omega (arith, within))

  -- and of the last
  pub last_all : (xs : List A) (x : A) → All P (xs ++ x ∷ []) → P x
  last_all [] x h = h 0 x (omega arith)
  last_all (y ∷ ys) x h = last_all ys x (λ j e w. h (suc j) e (omega (arith, w)))

module _ (start : Story) where
  -- designers who have just come, as those who sit
  pub sitters_came : (ds : List Working) (ss : List DesignerTally) → ss ≡ map begun ds → AreFresh start ds → HaveCome start ss
  sitters_came ds ss same fresh = subst (HaveCome start) (sym same) (λ k s within. by ds k s within ∙ ap (λ d. sitter (begun d)) (fresh k (working s) (omega (arith, within, length-map ds begun))))
    where
      by : (ds : List Working) (k : ℕ) (s : DesignerTally) → k < length (map begun ds) → sitter (slice_index_or (map begun ds) k s) ≡ sitter (begun (slice_index_or ds k (working s)))
      by [] k s within = absurd (omega (arith, within))
      by (d ∷ ds) zero s within = refl
      by (d ∷ ds) (suc k) s within = by ds k s (omega (arith, within))

  -- viewers who have just come
  pub lookers_came : (vs : List Seeing) → All (λ (v : Seeing). v ≡ fresh_viewer start) vs → All (λ (v : Seeing). looker v ≡ just_looking start) vs
  lookers_came vs fresh k v within = ap looker (fresh k v within)

module _ (now : Story) where
  pub sitters_extend : (ss : List DesignerTally) → ExtendsEach now (map working ss) → All (λ (s : Seated). Extends now s.seen) (map sitter ss)
  sitters_extend [] extends k s within = absurd (omega (arith, within))
  sitters_extend (x ∷ xs) extends zero s within = extends.0
  sitters_extend (x ∷ xs) extends (suc k) s within = sitters_extend xs extends.1 k s (omega (arith, within))

  pub lookers_extend : (vs : List Seeing) → All (λ (v : Seeing). Extends now v.last) vs → All (λ (s : Seated). Extends now s.seen) (map looker vs)
  lookers_extend [] extends k s within = absurd (omega (arith, within))
  lookers_extend (x ∷ xs) extends zero s within = extends 0 x (omega arith)
  lookers_extend (x ∷ xs) extends (suc k) s within = lookers_extend xs (λ j e w. extends (suc j) e (omega (arith, w))) k s (omega (arith, within))

-- the end of a desk without the number of its last viewer
pub without_last : (opening : ℕ) (ss : List DesignerTally) (viewers : ℕ) (now : Story) (tallies : List Tally) (numbers : List ℕ) (last : ℕ)
    → HasAdjourned opening ss (viewers + 1) now tallies (numbers ++ last ∷ []) → HasAdjourned opening ss viewers now tallies numbers
without_last opening ss viewers now tallies numbers last all = record {
  whole = all.whole;
  seen = all.seen;
  counted = all.counted;
  tallies_are = all.tallies_are;
  told = front_all (λ (n : ℕ). All (λ (s : DesignerTally). s.told ≤ n) ss) numbers last all.told;
  within = front_all (λ (n : ℕ). n ≤ length now.edits) numbers last all.within;
  viewers_are = let count = all.viewers_are in omega (arith, count, length-append numbers (last ∷ []));
}

-- what holds of all on one side holds of all on the other
pub all_through : {A B C : Type 0} (P : C → Type 0) (f : A → C) (g : B → C) (xs : List A) (ys : List B) → map f xs ≡ map g ys → All (λ x. P (f x)) xs → All (λ y. P (g y)) ys
all_through P f g [] [] same h k d within = absurd (omega (arith, within))
all_through P f g [] (y ∷ ys) same h k d within = absurd (cc same)
all_through P f g (x ∷ xs) [] same h k d within = absurd (omega (arith, within))
all_through P f g (x ∷ xs) (y ∷ ys) same h zero d within = let head : f x ≡ g y = cc same in subst P head (h 0 x (omega arith))
all_through P f g (x ∷ xs) (y ∷ ys) same h (suc k) d within = all_through P f g xs ys (cc same) (λ j e w. h (suc j) e (omega (arith, w))) k d (omega (arith, within))

-- the authors begin with what each designer has seen
pub begin_each : (authors : List ℕ) (ss : List DesignerTally) → BeginWithEach authors (map working ss) → All (λ (s : DesignerTally). IsPrefix s.signed authors) ss
begin_each authors [] begin k s within = absurd (omega (arith, within))
begin_each authors (x ∷ xs) begin zero s within = begin.0
begin_each authors (x ∷ xs) begin (suc k) s within = begin_each authors xs begin.1 k s (omega (arith, within))
