-- What holding sets of inputs need.
use Rattle.std.proofs.Common.{◌≡◌, ℕ, ◌+◌, ◌<◌, ◌≤◌, ◌&&◌, ◌||◌, ◌⊎◌, inl, inr, Bool, true, false, List, [], ◌∷◌, ◌++◌, length, zero, suc, refl, ap, sym, ◌∙◌, arith}
use Rattle.std.specs.Prelude.{slice_get, Result, Ok, Err, IfOk}
use Rattle.std.specs.List.{list_any}
use Rattle.std.proofs.lemmas.Bool.{cases_lt}
use Rattle.std.proofs.lemmas.List.Folds.{list_any-append}
use Rattle.std.proofs.lemmas.Option.{slice_get_past}
use Rattle.mp_holding.specs.declared.sets.needs.Needs.{Needs}
use Rattle.mp_holding.specs.declared.sets.needs.Shape.{Shape}
use Rattle.mp_holding.specs.sets.ClosedSets.{in_closed_set}
use Rattle.mp_holding.specs.sets.Needs.{are_met, are_met_in, are_met_at}
use Rattle.mp_records.specs.declared.module_record.ModuleRecord.{ModuleRecord}
use Rattle.mp_netlist.specs.Circuit.{Circuit}
use Rattle.mp_check.specs.Dead.{are_still, is_still_in}

pub weaken_ok : {A E : Type 0} → (r : Result A E) (P Q : A → Type 0) → ((x : A) → P x → Q x) → IfOk r P → IfOk r Q
weaken_ok (Ok x) P Q more is = more x is
weaken_ok (Err e) P Q more is = is

-- ---- lists of needs

pub met_before : (shape : Shape) (items : List Needs) (x : Needs) (set : ℕ → Bool) (k : ℕ) → k < length items → are_met_at shape (items ++ x ∷ []) set k ≡ are_met_at shape items set k
met_before shape [] x set k low = absurd (omega (arith, low))
met_before shape (y ∷ items) x set zero low = refl
met_before shape (y ∷ items) x set (suc k) low = met_before shape items x set k (omega (arith, low))

pub met_last : (shape : Shape) (items : List Needs) (x : Needs) (set : ℕ → Bool) (k : ℕ) → k ≡ length items → are_met_at shape (items ++ x ∷ []) set k ≡ are_met shape set x
met_last shape items x set k is = ap (are_met_at shape (items ++ x ∷ []) set) is ∙ at items
  where
    at : (xs : List Needs) → are_met_at shape (xs ++ x ∷ []) set (length xs) ≡ are_met shape set x
    at [] = refl
    at (y ∷ xs) = at xs

pub length_more : (items : List Needs) (x : Needs) → length (items ++ x ∷ []) ≡ length items + 1
length_more [] x = refl
length_more (y ∷ items) x = let rest = length_more items x in omega (arith, rest)

-- the first so many needs are those of a rule
pub record AreNeeds (shape : Shape) (keeps : (ℕ → Bool) → ℕ → Bool) (count : ℕ) (items : List Needs) : Type 0 where
  pub places : length items ≡ count
  pub each : (k : ℕ) → k < count → (set : ℕ → Bool) → are_met_at shape items set k ≡ keeps set k

pub no_needs : (shape : Shape) (keeps : (ℕ → Bool) → ℕ → Bool) → AreNeeds shape keeps 0 []
no_needs shape keeps = record { places = refl; each = λ k low set. absurd (omega (arith, low)) }

pub more_needs : (shape : Shape) (keeps : (ℕ → Bool) → ℕ → Bool) (count : ℕ) (items : List Needs) (x : Needs) → AreNeeds shape keeps count items
    → ((set : ℕ → Bool) → are_met shape set x ≡ keeps set count) → AreNeeds shape keeps (count + 1) (items ++ x ∷ [])
more_needs shape keeps count items x were is = record {
  places = length_more items x ∙ ap (λ k. k + 1) were.places;
  each = λ k low set. by k set low (cases_lt k count);
}
  where
    by : (k : ℕ) (set : ℕ → Bool) → k < count + 1 → (k < count) ⊎ (count ≤ k) → are_met_at shape (items ++ x ∷ []) set k ≡ keeps set k
    by k set low (inl before) = met_before shape items x set k (omega (arith, before, were.places)) ∙ were.each k before set
    by k set low (inr past) =
        let here : k ≡ count = omega (arith, low, past) in
        met_last shape items x set k (here ∙ sym were.places) ∙ is set ∙ sym (ap (keeps set) here)

-- so the sets that they keep are those of the rule
pub same_closed : (shape : Shape) (keeps : (ℕ → Bool) → ℕ → Bool) (count : ℕ) (items : List Needs) → AreNeeds shape keeps count items
    → ((set : ℕ → Bool) (k : ℕ) → count ≤ k → keeps set k ≡ false) → (k : ℕ) → in_closed_set (are_met_at shape items) (length items) k ≡ in_closed_set keeps count k
same_closed shape keeps count items are none k =
    let whole : are_met_at shape items ≡ keeps = λ i. (λ (set : ℕ → Bool) (j : ℕ). same set j i) in
    ap (λ f. in_closed_set f (length items) k) whole ∙ ap (λ c. in_closed_set keeps c k) are.places
  where
    same : (set : ℕ → Bool) (j : ℕ) → are_met_at shape items set j ≡ keeps set j
    same set j = by (cases_lt j count)
      where
        by : (j < count) ⊎ (count ≤ j) → are_met_at shape items set j ≡ keeps set j
        by (inl low) = are.each j low set
        by (inr past) = ap (are_met_in shape set) (slice_get_past items j (omega (arith, past, are.places))) ∙ sym (none set j past)

-- ---- what inputs need

and_yes : (a : Bool) → (a && true) ≡ a
and_yes true = refl
and_yes false = refl

or_no : (a : Bool) → (a || false) ≡ a
or_no true = refl
or_no false = refl

module _ (n : Circuit) (set : ℕ → Bool) (r : ModuleRecord) where
  abbrev still : ℕ → Bool
  still q = is_still_in n set (slice_get r.inputs q)

  -- one input, or two, given what they need
  pub one_still : (q : ℕ) (b : Bool) → b ≡ still q → (b && true) ≡ list_any (are_still n set r) ((q ∷ []) ∷ [])
  one_still q b is = ap (λ x. x && true) is ∙ sym (or_no (still q && true))

  pub two_still : (q p : ℕ) (a b : Bool) → a ≡ still q → b ≡ still p → (a && b) ≡ list_any (are_still n set r) ((q ∷ p ∷ []) ∷ [])
  two_still q p a b first second =
      ap (λ x. x && b) first ∙ ap (λ x. still q && x) second ∙ ap (λ x. still q && x) (sym (and_yes (still p))) ∙ sym (or_no (still q && (still p && true)))

  pub either_still : (xs ys zs : List (List ℕ)) (a b : Bool) → a ≡ list_any (are_still n set r) xs → b ≡ list_any (are_still n set r) ys → (xs ++ ys) ≡ zs
      → (a || b) ≡ list_any (are_still n set r) zs
  either_still xs ys zs a b first second all =
      ap (λ x. x || b) first ∙ ap (λ x. list_any (are_still n set r) xs || x) second ∙ sym (list_any-append (are_still n set r) xs ys) ∙ ap (list_any (are_still n set r)) all
