-- The look-up of a name among slots, and what each change of a slot does to the names and to their table.
use Rattle.std.proofs.Common.{◌≡◌, ℕ, zero, suc, ◌+◌, ◌-◌, ◌^◌, ◌<◌, ◌≤◌, ◌↔◌, Bool, true, false, cond, List, [], ◌∷◌, ◌++◌, length, get_or, Option, None, Some, MatchOption, is_some, is_none, unwrap_or, ◌⊎◌, inl, inr, refl, sym, ap, subst, ◌∙◌, arith, true≢false, length-append}
use Rattle.std.proofs.Math.ListN.{set}
use Rattle.std.specs.List.{position_from, slice_get}
use Rattle.std.specs.Str.{bytes_eq}
use Rattle.std.specs.Option.{option_and_then}
use Rattle.std.proofs.lemmas.List.{get_or_past, get_or_push, get_or_append_left, get_or-set_same, get_or-set_other}
use Rattle.std.proofs.lemmas.Slice.Eq.{bytes_eq-Decides}
use Rattle.std.proofs.lemmas.Bool.{cases_lt, cases_eq}
use Rattle.mp_records.specs.Names.{is_name}
use Rattle.mp_netlist.specs.Slots.{thing_in, has_name, number_named}
use Rattle.mp_netlist.specs.Tables.{named_number, IsTable}

module _ {X : Type 0} (p : X → Bool) (d : X) (none : p d ≡ false) where
  -- what the first place that passes is, or that none passes
  abbrev IsFirst : ℕ → List X → Option ℕ → Type 0
  IsFirst n xs found = MatchOption found ((i : ℕ) → p (get_or xs i d) ≡ false) (λ k. (n ≤ k) × (p (get_or xs (k - n) d) ≡ true))

  IsFirst-later : (n : ℕ) (x : X) (xs : List X) (r : Option ℕ) → p x ≡ false → IsFirst (n + 1) xs r → IsFirst n (x ∷ xs) r
  IsFirst-later n x xs None e all = elim [ zero ↦ e | suc i ↦ all i ]
  IsFirst-later n x xs (Some k) e at =
      let next : k - n ≡ suc (k - (n + 1)) = omega arith in
      (omega arith, rw next at.1)

  IsFirst-cons : (n : ℕ) (x : X) (xs : List X) (b : Bool) → p x ≡ b → (r : Option ℕ) → IsFirst (n + 1) xs r → IsFirst n (x ∷ xs) (cond b (Some n) r)
  IsFirst-cons n x xs true e r first = let here : n - n ≡ 0 = omega arith in (omega arith, rw here e)
  IsFirst-cons n x xs false e r first = IsFirst-later n x xs r e first

  pub first_place : (n : ℕ) (xs : List X) → IsFirst n xs (position_from p n xs)
  first_place n [] = λ i. none
  first_place n (x ∷ xs) = IsFirst-cons n x xs (p x) refl (position_from p (n + 1) xs) (first_place (n + 1) xs)

  -- the place that a search finds passes
  pub place_passes : (xs : List X) (k : ℕ) → position_from p 0 xs ≡ Some k → p (get_or xs k d) ≡ true
  place_passes xs k is = by (position_from p 0 xs) is (first_place 0 xs)
    where
      by : (r : Option ℕ) → r ≡ Some k → IsFirst 0 xs r → p (get_or xs k d) ≡ true
      by None e first = cc
      by (Some j) e first =
          let same : j - 0 ≡ k = (let this : j ≡ k = cc in omega arith) in
          subst (λ i. p (get_or xs i d) ≡ true) same first.1

  -- a look-up that gives exactly the places that pass is the search
  pub search_from_lookup : (xs : List X) (found : Option ℕ) → ((i : ℕ) → (found ≡ Some i) ↔ (p (get_or xs i d) ≡ true)) → found ≡ position_from p 0 xs
  search_from_lookup xs found same = by found (position_from p 0 xs) same (first_place 0 xs)
    where
      by : (f r : Option ℕ) → ((i : ℕ) → (f ≡ Some i) ↔ (p (get_or xs i d) ≡ true)) → IsFirst 0 xs r → f ≡ r
      by None None same first = refl
      by (Some i) None same first = let yes = (same i).0 refl in let no = first i in cc
      by f (Some k) same first = (same k).1 (let e : k - 0 ≡ k = omega arith in subst (λ j. p (get_or xs j d) ≡ true) e first.1)

-- what stands in a slot, by a look at the list of slots
pub thing_in_get : {R : Type 0} (slots : List (Option R)) (number : ℕ) → thing_in (slice_get slots number) ≡ get_or slots number None
thing_in_get [] number = refl
thing_in_get (slot ∷ slots) zero = refl
thing_in_get (slot ∷ slots) (suc number) = thing_in_get slots number

-- which slot is at a place, after one goes last
abbrev pub PushedAt : {R : Type 0} → List (Option R) → Option R → ℕ → Type 0
PushedAt xs x n =
    ((n < length xs) × (get_or (xs ++ x ∷ []) n None ≡ get_or xs n None))
    ⊎ (((n ≡ length xs) × (get_or (xs ++ x ∷ []) n None ≡ x)) ⊎ ((length xs ≤ n) × (get_or (xs ++ x ∷ []) n None ≡ None)))

pub pushed_at : {R : Type 0} (xs : List (Option R)) (x : Option R) (n : ℕ) → PushedAt xs x n
pushed_at xs x n = by (cases_lt n (length xs)) (cases_eq n (length xs))
  where
    by : (n < length xs) ⊎ (length xs ≤ n) → (n ≡ length xs) ⊎ (n ≡ length xs → ⊥) → PushedAt xs x n
    by (inl h) e = inl (h, get_or_append_left xs _ None n h)
    by (inr h) (inl e) = inr (inl (e, get_or_push xs x None n (sym e)))
    by (inr h) (inr e) =
        let long : length (xs ++ x ∷ []) ≤ n = rw length-append (omega (arith, e)) in
        inr (inr (h, get_or_past _ n None long))

-- which slot is at a place, after one is written over
abbrev pub RewrittenAt : {R : Type 0} → List (Option R) → ℕ → Option R → ℕ → Type 0
RewrittenAt xs i x n =
    ((n ≡ i) × (get_or (set xs i x) n None ≡ x)) ⊎ ((n ≡ i → ⊥) × (get_or (set xs i x) n None ≡ get_or xs n None))

pub rewritten_at : {R : Type 0} (xs : List (Option R)) (i : ℕ) (x : Option R) → i < length xs → (n : ℕ) → RewrittenAt xs i x n
rewritten_at xs i x within n = by (cases_eq n i)
  where
    by : (n ≡ i) ⊎ (n ≡ i → ⊥) → RewrittenAt xs i x n
    by (inl same) = inl (same, ap (λ k. get_or (set xs i x) k None) same ∙ get_or-set_same xs i x None within)
    by (inr other) = inr (other, get_or-set_other xs i n x None other)

-- what stands is within the slots
pub slot_within : {R : Type 0} (slots : List (Option R)) (k : ℕ) → is_some (get_or slots k None) ≡ true → k < length slots
slot_within slots k is = by (cases_lt k (length slots))
  where
    by : (k < length slots) ⊎ (length slots ≤ k) → k < length slots
    by (inl h) = h
    by (inr h) = let none = ap is_some (get_or_past slots k None h) in cc

pub same_name : (a b : List ℕ) → bytes_eq a b ≡ true → a ≡ b
same_name a b = (bytes_eq-Decides a b).0

pub equal_name : (a b : List ℕ) → a ≡ b → bytes_eq a b ≡ true
equal_name a b = (bytes_eq-Decides a b).1

module _ {R : Type 0} (name_of : R → List ℕ) where
  -- what has a name is not an empty slot
  nobody : (q : List ℕ) {A : Type 0} → (slot : Option R) → slot ≡ None → has_name name_of q slot ≡ true → A
  nobody q slot e h = absurd (true≢false (sym h ∙ ap (has_name name_of q) e))

  -- one thing has one name
  pub one_name : (a b : List ℕ) (slot : Option R) → has_name name_of a slot ≡ true → has_name name_of b slot ≡ true → a ≡ b
  one_name a b None has other = absurd (true≢false (sym has))
  one_name a b (Some thing) has other = same_name a (name_of thing) has ∙ sym (same_name b (name_of thing) other)

  -- the thing that a look-up finds has the name
  pub named_has : (slots : List (Option R)) (name : List ℕ) (number : ℕ) → number_named name_of slots name ≡ Some number → has_name name_of name (get_or slots number None) ≡ true
  unfolding number_named
  named_has slots name number = place_passes (has_name name_of name) None refl slots number

  -- where nothing among the slots has the name a look-up finds none
  pub named_nowhere : (slots : List (Option R)) (name : List ℕ) → ((i : ℕ) → i < length slots → has_name name_of name (get_or slots i None) ≡ false)
      → None ≡ number_named name_of slots name
  unfolding number_named
  named_nowhere slots name none = search_from_lookup (has_name name_of name) None refl slots None (λ i. ((λ is. cc), (λ has. by i has (cases_lt i (length slots)))))
    where
      by : (i : ℕ) → has_name name_of name (get_or slots i None) ≡ true → (i < length slots) ⊎ (length slots ≤ i) → None ≡ Some i
      by i has (inl within) = absurd (true≢false (sym has ∙ none i within))
      by i has (inr past) = nobody name _ (get_or_past slots i None past) has

  -- with its slot a look-up finds just the thing that has the name
  naming_has : (slots : List (Option R)) (look : List ℕ → Option ℕ) → IsTable name_of slots look → (name : List ℕ) (i : ℕ)
      → (named_number name_of slots name (look name) ≡ Some i) ↔ (has_name name_of name (get_or slots i None) ≡ true)
  naming_has slots look table name i = by (look name) refl
    where
      at : (k : ℕ) (b : Bool) → look name ≡ Some k → has_name name_of name (get_or slots k None) ≡ b → (cond b (Some k) None ≡ Some i) ↔ (has_name name_of name (get_or slots i None) ≡ true)
      at k true is has = (
        λ h. let same : k ≡ i = cc in subst (λ j. has_name name_of name (get_or slots j None) ≡ true) same has,
        λ h. sym is ∙ table.finds name i h,
      )
      at k false is other = (
        λ h. cc,
        λ h.
            let found = table.finds name i h in
            let same : i ≡ k = cc in
            absurd (true≢false (sym h ∙ ap (λ j. has_name name_of name (get_or slots j None)) same ∙ other)),
      )

      by : (found : Option ℕ) → look name ≡ found → (named_number name_of slots name found ≡ Some i) ↔ (has_name name_of name (get_or slots i None) ≡ true)
      by None is = (λ h. cc, λ h. let other = table.finds name i h in cc)
      by (Some k) is = at k (has_name name_of name (get_or slots k None)) is refl

  -- with the slots the table answers the look-up of the definition
  module _ (slots : List (Option R)) (look : List ℕ → Option ℕ) (table : IsTable name_of slots look) (name : List ℕ) where
    looked_up : named_number name_of slots name (look name) ≡ number_named name_of slots name
    unfolding number_named
    looked_up = search_from_lookup (has_name name_of name) None refl slots (named_number name_of slots name (look name)) (naming_has slots look table name)

    -- the thing that has the name is the one that a look-up finds
    pub number_having : (k : ℕ) → has_name name_of name (get_or slots k None) ≡ true → Some k ≡ number_named name_of slots name
    number_having k has = sym (ap (named_number name_of slots name) (table.finds name k has) ∙ ap (λ b. cond b (Some k) None) has) ∙ looked_up

    pub number_other : (k : ℕ) → look name ≡ Some k → has_name name_of name (get_or slots k None) ≡ false → None ≡ number_named name_of slots name
    number_other k is other = sym (ap (named_number name_of slots name) is ∙ ap (λ b. cond b (Some k) None) other) ∙ looked_up

    pub number_unknown : look name ≡ None → None ≡ number_named name_of slots name
    number_unknown is = sym (ap (named_number name_of slots name) is) ∙ looked_up

  -- what is known of a thing that a name finds
  pub record IsNamed (slots : List (Option R)) (name : List ℕ) : Type 0 where
    pub thing : R
    pub named : number_named name_of slots name ≡ Some (unwrap_or (number_named name_of slots name) 0)
    pub at : get_or slots (unwrap_or (number_named name_of slots name) 0) None ≡ Some thing
    pub found : option_and_then (λ k. get_or slots k None) (number_named name_of slots name) ≡ Some thing

  named_at : (slots : List (Option R)) (name : List ℕ) (k : ℕ) (slot : Option R) → number_named name_of slots name ≡ Some k → get_or slots k None ≡ slot → IsNamed slots name
  named_at slots name k None is at = absurd (true≢false (sym (named_has slots name k is) ∙ ap (has_name name_of name) at))
  named_at slots name k (Some thing) is at =
      let same : unwrap_or (number_named name_of slots name) 0 ≡ k = ap (λ f. unwrap_or f 0) is in
      record {
        thing = thing;
        named = is ∙ ap Some (sym same);
        at = ap (λ i. get_or slots i None) same ∙ at;
        found = ap (option_and_then (λ i. get_or slots i None)) is ∙ at;
      }

  pub is_named : (slots : List (Option R)) (name : List ℕ) → is_some (number_named name_of slots name) ≡ true → IsNamed slots name
  is_named slots name is = by (number_named name_of slots name) refl
    where
      by : (found : Option ℕ) → number_named name_of slots name ≡ found → IsNamed slots name
      by None found = absurd (true≢false (sym is ∙ ap is_some found))
      by (Some k) found = named_at slots name k (get_or slots k None) found refl

  -- where a look-up finds nothing no thing has the name
  pub named_none : (slots : List (Option R)) (name : List ℕ) → is_none (number_named name_of slots name) ≡ true → (i : ℕ) → has_name name_of name (get_or slots i None) ≡ false
  unfolding number_named
  named_none slots name free i = by (position_from (has_name name_of name) 0 slots) free (first_place (has_name name_of name) None refl 0 slots)
    where
      by : (found : Option ℕ) → is_none found ≡ true → IsFirst (has_name name_of name) None refl 0 slots found → has_name name_of name (get_or slots i None) ≡ false
      by None none first = first i
      by (Some k) none first = cc

  -- a thing of a new name goes last, and the table gets the name
  module _ (name : List ℕ) (slots : List (Option R)) (thing : R) (look : List ℕ → Option ℕ) (same : name_of thing ≡ name)
      (free : is_none (number_named name_of slots name) ≡ true) (table : IsTable name_of slots look) where
    finds-push : (q : List ℕ) (number : ℕ) (b : Bool) → bytes_eq name q ≡ b → PushedAt slots (Some thing) number
        → has_name name_of q (get_or (slots ++ Some thing ∷ []) number None) ≡ true → cond b (Some (length slots)) (look q) ≡ Some number
    finds-push q number true e (inl w) has =
        let had = subst (λ n. has_name name_of n (get_or slots number None) ≡ true) (sym (same_name name q e)) (sym (ap (has_name name_of q) w.1) ∙ has) in
        absurd (true≢false (sym had ∙ named_none slots name free number))
    finds-push q number true e (inr (inl w)) has = ap Some (sym w.0)
    finds-push q number false e (inl w) has = table.finds q number (sym (ap (has_name name_of q) w.1) ∙ has)
    finds-push q number false e (inr (inl w)) has =
        let is : q ≡ name_of thing = same_name q (name_of thing) (sym (ap (has_name name_of q) w.1) ∙ has) in
        absurd (true≢false (sym (equal_name name q (sym (is ∙ same))) ∙ e))
    finds-push q number b e (inr (inr w)) has = nobody q _ w.1 has

    finds-noted : (q : List ℕ) (number : ℕ) (b : Bool) → bytes_eq name q ≡ b → has_name name_of q (get_or slots number None) ≡ true → cond b (Some (length slots)) (look q) ≡ Some number
    finds-noted q number true e has =
        let had = subst (λ n. has_name name_of n (get_or slots number None) ≡ true) (sym (same_name name q e)) has in
        absurd (true≢false (sym had ∙ named_none slots name free number))
    finds-noted q number false e has = table.finds q number has

    -- the table has the name, and the thing is yet to go last
    pub IsTable-noted : (new : List ℕ → Option ℕ) → ((q : List ℕ) → new q ≡ cond (bytes_eq name q) (Some (length slots)) (look q)) → IsTable name_of slots new
    IsTable-noted new is = record { few = table.few; finds = λ q number has. is q ∙ finds-noted q number (bytes_eq name q) refl has }

    pub IsTable-push : (new : List ℕ → Option ℕ) → length slots < 2 ^ 32 → ((q : List ℕ) → new q ≡ cond (bytes_eq name q) (Some (length slots)) (look q))
        → IsTable name_of (slots ++ Some thing ∷ []) new
    IsTable-push new room is = record {
      few = rw length-append (omega arith);
      finds = λ q number has. is q ∙ finds-push q number (bytes_eq name q) refl (pushed_at slots (Some thing) number) has;
    }

  -- each thing that stands has a name
  abbrev pub AreNamed : List (Option R) → Type 0
  AreNamed slots = (i : ℕ) (r : R) → get_or slots i None ≡ Some r → is_name (name_of r) ≡ true

  -- no two things that stand have one name
  abbrev pub AreApart : List (Option R) → Type 0
  AreApart slots = (i j : ℕ) (r s : R) → get_or slots i None ≡ Some r → get_or slots j None ≡ Some s → name_of r ≡ name_of s → i ≡ j

  -- the thing that stands in the slot has the name of this one
  pub record IsNamesake (slot : Option R) (thing : R) : Type 0 where
    pub other : R
    pub stands : slot ≡ Some other
    pub same : name_of thing ≡ name_of other

  -- what stands now stood before under its number, by its name
  abbrev KeepNames : List (Option R) → List (Option R) → Type 0
  KeepNames old new = (i : ℕ) (s : R) → get_or new i None ≡ Some s → IsNamesake (get_or old i None) s

  AreNamed-keep : (old new : List (Option R)) → KeepNames old new → AreNamed old → AreNamed new
  AreNamed-keep old new kept named i s at = let was = kept i s at in ap is_name was.same ∙ named i was.other was.stands

  AreApart-keep : (old new : List (Option R)) → KeepNames old new → AreApart old → AreApart new
  AreApart-keep old new kept apart i j r s first second same =
      let a = kept i r first in
      let b = kept j s second in
      apart i j a.other b.other a.stands b.stands (sym a.same ∙ same ∙ b.same)

  module _ (slots : List (Option R)) (i : ℕ) (slot : Option R) (within : i < length slots) (namesake : (s : R) → slot ≡ Some s → IsNamesake (get_or slots i None) s) where
    rewrite_keeps : KeepNames slots (set slots i slot)
    rewrite_keeps k s at = by (rewritten_at slots i slot within k)
      where
        by : RewrittenAt slots i slot k → IsNamesake (get_or slots k None) s
        by (inl new) = subst (λ j. IsNamesake (get_or slots j None) s) (sym new.0) (namesake s (sym new.1 ∙ at))
        by (inr old) = record { other = s; stands = sym old.1 ∙ at; same = refl }

    -- a thing goes, or is written over by one of its name
    pub AreNamed-rewrite : AreNamed slots → AreNamed (set slots i slot)
    AreNamed-rewrite = AreNamed-keep slots (set slots i slot) rewrite_keeps

    pub AreApart-rewrite : AreApart slots → AreApart (set slots i slot)
    AreApart-rewrite = AreApart-keep slots (set slots i slot) rewrite_keeps

  module _ (slots : List (Option R)) (thing : R) where
    -- what stands after one more thing goes last stood there, or is the new one
    abbrev StandsNow : ℕ → R → Type 0
    StandsNow i r = (get_or slots i None ≡ Some r) ⊎ ((i ≡ length slots) × (r ≡ thing))

    stands_now : (i : ℕ) (r : R) → get_or (slots ++ Some thing ∷ []) i None ≡ Some r → StandsNow i r
    stands_now i r at = by (pushed_at slots (Some thing) i)
      where
        by : PushedAt slots (Some thing) i → StandsNow i r
        by (inl old) = inl (sym old.1 ∙ at)
        by (inr (inl new)) = let both = sym at ∙ new.1 in inr (new.0, cc)
        by (inr (inr none)) = let no = sym none.1 ∙ at in cc

    -- a thing that has a name goes last
    pub AreNamed-push : is_name (name_of thing) ≡ true → AreNamed slots → AreNamed (slots ++ Some thing ∷ [])
    AreNamed-push is named i r at = by (stands_now i r at)
      where
        by : StandsNow i r → is_name (name_of r) ≡ true
        by (inl old) = named i r old
        by (inr new) = ap (λ s. is_name (name_of s)) new.1 ∙ is

    -- a thing of a new name goes last
    pub AreApart-push : is_none (number_named name_of slots (name_of thing)) ≡ true → AreApart slots → AreApart (slots ++ Some thing ∷ [])
    AreApart-push free apart i j r s first second same = by (stands_now i r first) (stands_now j s second)
      where
        taken : {A : Type 0} (k : ℕ) (t : R) → get_or slots k None ≡ Some t → name_of thing ≡ name_of t → A
        taken k t at is =
            let has = ap (has_name name_of (name_of thing)) at ∙ equal_name (name_of thing) (name_of t) is in
            absurd (true≢false (sym has ∙ named_none slots (name_of thing) free k))

        by : StandsNow i r → StandsNow j s → i ≡ j
        by (inl a) (inl b) = apart i j r s a b same
        by (inl a) (inr b) = taken i r a (ap name_of (sym b.1) ∙ sym same)
        by (inr a) (inl b) = taken j s b (ap name_of (sym a.1) ∙ same)
        by (inr a) (inr b) = a.0 ∙ sym b.0
