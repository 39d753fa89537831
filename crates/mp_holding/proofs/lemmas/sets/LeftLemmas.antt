-- What is left while numbers go.
use Rattle.std.proofs.Common.{◌≡◌, ℕ, ◌<◌, ◌==◌, ◌||◌, not, ◌&&◌, ◌⊎◌, inl, inr, Bool, true, false, cond, List, [], ◌∷◌, ◌++◌, length, set, replicate, zero, suc, refl, ap, sym, subst, ◌∙◌, eq-eqb, arith}
use Rattle.std.specs.Prelude.{slice_get, slice_set}
use Rattle.std.proofs.lemmas.Bool.{cases_Bool, eqb-true, eqb-false, and_parts}
use Rattle.std.proofs.lemmas.List.{get_or-set_same, get_or-set_other, length-set, get_or-replicate, length-replicate}
use Rattle.std.proofs.lemmas.Option.{slice_get_within}
use Rattle.std.proofs.lemmas.List.Folds.{list_any-append}
use Rattle.mp_holding.specs.declared.sets.needs.Needs.{Needs}
use Rattle.mp_holding.specs.declared.sets.needs.Shape.{Shape}
use Rattle.mp_holding.specs.sets.ClosedSets.{is_in, is_closed, in_closed_set}
use Rattle.mp_holding.specs.sets.Laws.{IsWithin}
use Rattle.mp_holding.specs.sets.Marks.{is_marked}
use Rattle.mp_holding.specs.sets.Needs.{are_met_at}
use Rattle.mp_holding.specs.sets.Elimination.{falls, marks_after, gone_after, left_or_gone, IsGood, everywhere, where_no_need, marked_count, left_count}
use Rattle.mp_holding.proofs.lemmas.sets.ClosedLemmas.{true_false, or_first, or_second, or_cases, same_test, all_at, set_of, has_test}
use Rattle.mp_holding.proofs.lemmas.sets.NeedLemmas.{met_grows, met_without, has_place}

-- ---- marks

pub marked_within : (marks : List Bool) (k : ℕ) → is_marked marks k ≡ true → k < length marks
marked_within [] k is = absurd (true_false false is refl)
marked_within (b ∷ marks) zero is = omega arith
marked_within (b ∷ marks) (suc k) is = let rest = marked_within marks k is in omega (arith, rest)

pub gone_cases : (gone : List ℕ) (j k : ℕ) → is_in (gone ++ j ∷ []) k ≡ true → (is_in gone k ≡ true) ⊎ (j ≡ k)
gone_cases gone j k at = by (or_cases (is_in gone k) (is_in (j ∷ []) k) (sym (list_any-append (λ i. i == k) gone (j ∷ [])) ∙ at))
  where
    last : ((j == k) ≡ true) ⊎ (false ≡ true) → j ≡ k
    last (inl same) = eqb-true j k same
    last (inr wrong) = absurd (true_false false wrong refl)

    by : (is_in gone k ≡ true) ⊎ (is_in (j ∷ []) k ≡ true) → (is_in gone k ≡ true) ⊎ (j ≡ k)
    by (inl before) = inl before
    by (inr here) = inr (last (or_cases (j == k) false here))

pub gone_more : (gone : List ℕ) (j k : ℕ) → is_in gone k ≡ true → is_in (gone ++ j ∷ []) k ≡ true
gone_more gone j k at = list_any-append (λ i. i == k) gone (j ∷ []) ∙ or_first (is_in gone k) (is_in (j ∷ []) k) at

pub gone_last : (gone : List ℕ) (j : ℕ) → is_in (gone ++ j ∷ []) j ≡ true
gone_last gone j =
    list_any-append (λ i. i == j) gone (j ∷ []) ∙ or_second (is_in gone j) (is_in (j ∷ []) j) (or_first (j == j) false (eq-eqb j j refl))

unmarked : (marks : List Bool) (j k : ℕ) → (k ≡ j → ⊥) → is_marked (slice_set marks j false) k ≡ is_marked marks k
unmarked marks j k other = get_or-set_other marks j k false false other

unmarked_here : (marks : List Bool) (j : ℕ) → j < length marks → is_marked (slice_set marks j false) j ≡ false
unmarked_here marks j low = get_or-set_same marks j false false low

count_unmarked : (marks : List Bool) (j : ℕ) → is_marked marks j ≡ true → suc (marked_count (set marks j false)) ≡ marked_count marks
count_unmarked [] j is = absurd (true_false false is refl)
count_unmarked (true ∷ marks) zero is = refl
count_unmarked (false ∷ marks) zero is = absurd (true_false false is refl)
count_unmarked (true ∷ marks) (suc j) is = let rest = count_unmarked marks j is in omega (arith, rest)
count_unmarked (false ∷ marks) (suc j) is = count_unmarked marks j is

length_last : (gone : List ℕ) (j : ℕ) → length (gone ++ j ∷ []) ≡ suc (length gone)
length_last [] j = refl
length_last (i ∷ gone) j = ap suc (length_last gone j)

-- ---- one number is looked at

module _ (shape : Shape) (needs : List Needs) where
  abbrev keeps : (ℕ → Bool) → ℕ → Bool
  keeps = are_met_at shape needs

  pub weaken : (P Q : ℕ → Type 0) (marks : List Bool) (gone : List ℕ) → ((k : ℕ) → Q k → P k) → IsGood shape needs P marks gone → IsGood shape needs Q marks gone
  weaken P Q marks gone less good = record {
    places = good.places;
    within = good.within;
    closed = good.closed;
    kept = λ k q is. good.kept k (less k q) is;
  }

  module _ (number : ℕ) (marks : List Bool) (gone : List ℕ) (low : number < length needs) where
    abbrev Goal : (ℕ → Type 0) → Bool → Type 0
    Goal Q b = IsGood shape needs Q (cond b (slice_set marks number false) marks) (cond b (gone ++ number ∷ []) gone)

    module _ (P Q : ℕ → Type 0) (less : (k : ℕ) → Q k → P k ⊎ (k ≡ number)) (good : IsGood shape needs P marks gone) where
      stays : falls shape needs number marks ≡ false → Goal Q false
      stays not_falls = record {
        places = good.places;
        within = good.within;
        closed = good.closed;
        kept = λ k q is. by k is (less k q);
      }
        where
          here : (m e : Bool) → m ≡ true → (m && not e) ≡ false → e ≡ true
          here true true is fails = refl
          here true false is fails = sym fails
          here false e is fails = absurd (true_false false is refl)

          by : (k : ℕ) → is_marked marks k ≡ true → P k ⊎ (k ≡ number) → keeps (left_or_gone marks gone) k ≡ true
          by k is (inl p) = good.kept k p is
          by k is (inr same) =
              met_grows shape needs (is_marked marks) (left_or_gone marks gone) (λ i so. or_first (is_marked marks i) (is_in gone i) so) k
              (subst (λ i. keeps (is_marked marks) i ≡ true) (sym same)
              (here (is_marked marks number) (keeps (is_marked marks) number) (subst (λ i. is_marked marks i ≡ true) same is) not_falls))

      goes : falls shape needs number marks ≡ true → Goal Q true
      goes does = record {
        places = length-set marks number false ∙ good.places;
        within = λ k at. within_by k (gone_cases gone number k at);
        closed = λ some closed k at. closed_by some closed k at (cases_Bool (k == number));
        kept = λ k q is. kept_by k q is (cases_Bool (k == number));
      }
        where
          unmet : keeps (is_marked marks) number ≡ true → ⊥
          unmet met = by (keeps (is_marked marks) number) met (and_parts (is_marked marks number) (not (keeps (is_marked marks) number)) does).1
            where
              by : (e : Bool) → e ≡ true → not e ≡ true → ⊥
              by true is fails = true_false false fails refl
              by false is fails = true_false false is refl

          within_by : (k : ℕ) → (is_in gone k ≡ true) ⊎ (number ≡ k) → k < length needs
          within_by k (inl before) = good.within k before
          within_by k (inr here) = omega (arith, here, low)

          closed_by : (some : List ℕ) → is_closed keeps some ≡ true → (k : ℕ) → is_in some k ≡ true → ((k == number) ≡ true) ⊎ ((k == number) ≡ false) → is_marked (slice_set marks number false) k ≡ true
          closed_by some closed k at (inr other) = unmarked marks number k (eqb-false k number other) ∙ good.closed some closed k at
          closed_by some closed k at (inl same) =
              absurd (unmet (met_grows shape needs (is_in some) (is_marked marks) (good.closed some closed) number
              (subst (λ i. keeps (is_in some) i ≡ true) (eqb-true k number same) (all_at (keeps (is_in some)) some k closed at))))

          more : IsWithin (left_or_gone marks gone) (left_or_gone (slice_set marks number false) (gone ++ number ∷ []))
          more i is = by (cases_Bool (i == number)) (or_cases (is_marked marks i) (is_in gone i) is)
            where
              by : ((i == number) ≡ true) ⊎ ((i == number) ≡ false) → (is_marked marks i ≡ true) ⊎ (is_in gone i ≡ true) → left_or_gone (slice_set marks number false) (gone ++ number ∷ []) i ≡ true
              by (inl same) either =
                  or_second (is_marked (slice_set marks number false) i) (is_in (gone ++ number ∷ []) i)
                  (subst (λ j. is_in (gone ++ j ∷ []) i ≡ true) (eqb-true i number same) (gone_last gone i))
              by (inr other) (inl marked) =
                  or_first (is_marked (slice_set marks number false) i) (is_in (gone ++ number ∷ []) i) (unmarked marks number i (eqb-false i number other) ∙ marked)
              by (inr other) (inr before) =
                  or_second (is_marked (slice_set marks number false) i) (is_in (gone ++ number ∷ []) i) (gone_more gone number i before)

          kept_by : (k : ℕ) → Q k → is_marked (slice_set marks number false) k ≡ true → ((k == number) ≡ true) ⊎ ((k == number) ≡ false)
              → keeps (left_or_gone (slice_set marks number false) (gone ++ number ∷ [])) k ≡ true
          kept_by k q is (inl same) =
              let there : is_marked (slice_set marks number false) number ≡ true = subst (λ i. is_marked (slice_set marks number false) i ≡ true) (eqb-true k number same) is in
              absurd (true_false (is_marked (slice_set marks number false) number) there (unmarked_here marks number (omega (arith, low, good.places))))
          kept_by k q is (inr other) =
              let apart = eqb-false k number other in
              let marked : is_marked marks k ≡ true = sym (unmarked marks number k apart) ∙ is in
              met_grows shape needs (left_or_gone marks gone) (left_or_gone (slice_set marks number false) (gone ++ number ∷ [])) more k
              (good.kept k (before (less k q) apart) marked)
            where
              before : P k ⊎ (k ≡ number) → (k ≡ number → ⊥) → P k
              before (inl p) apart = p
              before (inr same) apart = absurd (apart same)

      pub look_good : IsGood shape needs Q (marks_after shape needs number marks) (gone_after shape needs number marks gone)
      look_good = by (falls shape needs number marks) refl
        where
          by : (b : Bool) → falls shape needs number marks ≡ b → Goal Q b
          by true does = goes does
          by false fails = stays fails

    pub look_count : left_count (marks_after shape needs number marks) (gone_after shape needs number marks gone) ≡ left_count marks gone
    look_count = by (falls shape needs number marks) refl
      where
        by : (b : Bool) → falls shape needs number marks ≡ b → left_count (cond b (slice_set marks number false) marks) (cond b (gone ++ number ∷ []) gone) ≡ left_count marks gone
        by false fails = refl
        by true does =
            let marked = (and_parts (is_marked marks number) (not (keeps (is_marked marks) number)) does).0 in
            let count = count_unmarked marks number marked in
            omega (arith, count, length_last gone number)

  -- ---- all numbers

  all_marked : (count k : ℕ) → k < count → is_marked (replicate count true) k ≡ true
  all_marked count k low = get_or-replicate count k true false low

  has_needs : (some : ℕ → Bool) (k : ℕ) → keeps some k ≡ true → k < length needs
  has_needs some k is = let found = has_place shape needs some (slice_get needs k) is in slice_get_within needs k found.0 found.1

  pub first_good : IsGood shape needs (λ k. k < 0) (replicate (length needs) true) []
  first_good = record {
    places = length-replicate (length needs) true;
    within = λ k at. absurd (true_false false at refl);
    closed = λ some closed k at. all_marked (length needs) k (has_needs (is_in some) k (all_at (keeps (is_in some)) some k closed at));
    kept = λ k below is. absurd (omega (arith, below));
  }

  pub all_good : (count : ℕ) (marks : List Bool) (gone : List ℕ) → count ≡ length needs → IsGood shape needs (λ k. k < count) marks gone → IsGood shape needs everywhere marks gone
  all_good count marks gone all good = record {
    places = good.places;
    within = good.within;
    closed = good.closed;
    kept = λ k q is. let low = marked_within marks k is in good.kept k (omega (arith, low, good.places, all)) is;
  }

  -- one of those that have gone is taken
  module _ (number : ℕ) (marks : List Bool) (gone : List ℕ) where
    agree : (k : ℕ) → (k ≡ number → ⊥) → left_or_gone marks (gone ++ number ∷ []) k ≡ left_or_gone marks gone k
    agree k other = ap (λ b. is_marked marks k || b) (same_test (is_in (gone ++ number ∷ []) k) (is_in gone k) (λ at. by (gone_cases gone number k at)) (gone_more gone number k))
      where
        by : (is_in gone k ≡ true) ⊎ (number ≡ k) → is_in gone k ≡ true
        by (inl before) = before
        by (inr here) = absurd (other (sym here))

    pub taken_good : IsGood shape needs everywhere marks (gone ++ number ∷ []) → IsGood shape needs (where_no_need needs number) marks gone
    taken_good good = record {
      places = good.places;
      within = λ k at. good.within k (gone_more gone number k at);
      closed = good.closed;
      kept = λ k free is. sym (met_without shape needs (left_or_gone marks (gone ++ number ∷ [])) (left_or_gone marks gone) number agree k free) ∙ good.kept k tt is;
    }

    pub taken_low : IsGood shape needs everywhere marks (gone ++ number ∷ []) → number < length needs
    taken_low good = good.within number (gone_last gone number)

    pub taken_count : left_count marks (gone ++ number ∷ []) ≡ suc (left_count marks gone)
    taken_count = let last = length_last gone number in omega (arith, last)

  -- ---- in the end

  pub good_is_greatest : (marks : List Bool) (gone : List ℕ) → gone ≡ [] → IsGood shape needs everywhere marks gone → (k : ℕ) → is_marked marks k ≡ in_closed_set keeps (length needs) k
  good_is_greatest marks gone none good k =
      same_test (is_marked marks k) (in_closed_set keeps (length needs) k)
      (has_test keeps (length needs) (is_marked marks) (λ j is. let low = marked_within marks j is in omega (arith, low, good.places)) (met_grows shape needs)
      (λ j is. met_grows shape needs (left_or_gone marks gone) (is_marked marks) only_left j (good.kept j tt is)) k)
      (λ is. let one = set_of keeps (length needs) k is in good.closed one.set one.closed k one.at)
    where
      only_left : IsWithin (left_or_gone marks gone) (is_marked marks)
      only_left i is = by (or_cases (is_marked marks i) (is_in gone i) is)
        where
          by : (is_marked marks i ≡ true) ⊎ (is_in gone i ≡ true) → is_marked marks i ≡ true
          by (inl marked) = marked
          by (inr before) = absurd (true_false false (subst (λ (l : List ℕ). is_in l i ≡ true) none before) refl)
