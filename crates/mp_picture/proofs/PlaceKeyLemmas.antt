-- Places that are looked up.
use Rattle.std.proofs.Common.{◌≡◌, ℕ, ◌==◌, ◌&&◌, Bool, true, false, not, cond, ◌||◌, List, [], ◌∷◌, ◌++◌, refl, sym, ap, ◌∙◌, append-nil, arith}
use Rattle.std.proofs.lemmas.Bool.Decides.{nat_tests}
use Rattle.std.specs.BTreeMap.{is_at}
use Rattle.std.specs.Cmp.{both_tied, unsigned_tied, unsigned_ties}
use Rattle.std.specs.List.{list_any}
use Rattle.std.proofs.lemmas.List.Folds.{list_any-append}
use Rattle.mp_model.specs.declared.finding.Place.{Place}
use Rattle.mp_model.specs.declared.finding.Place.TheVariants.{Module, Bundle}
use Rattle.mp_picture.specs.Found.{is_place}
use Rattle.mp_picture.specs.PlaceKeys.{numbered_order, place_key, place_order}
use Rattle.mp_picture.proofs.FoundLemmas.{either_way}

-- two places are looked up as one if they are the same
pub keys_tell : (p q : Place) → is_at (place_order (place_key p)) (place_key q) ≡ is_place p q
keys_tell (Module m) (Module k) = unsigned_tied m.0 k.0
keys_tell (Module m) (Bundle b) = refl
keys_tell (Bundle b) (Module m) = refl
keys_tell (Bundle b) (Bundle d) = unsigned_tied b.0 d.0

-- with a number each, if that is the same too
pub numbered_tell : (p q : Place) (a b : ℕ) → is_at (numbered_order (place_key p, a)) (place_key q, b) ≡ (is_place p q && a == b)
numbered_tell p q a b = sym (both_tied (is_place p q) (a == b) (place_order (place_key p) (place_key q)) _ (sym (keys_tell p q)) (unsigned_ties a b))

pub same_either_way : (a b : ℕ) → (a == b) ≡ (b == a)
same_either_way a b = grind (arith, nat_tests)

seen_so : (b : Bool) → not b ≡ false → b ≡ true
seen_so true is = refl
seen_so false is = sym is

new_so : (b : Bool) → not b ≡ true → b ≡ false
new_so true is = sym is
new_so false is = refl

module _ (places : List Place) (p : Place) (added known : Bool) (tells : added ≡ not known) (is : known ≡ list_any (is_place p) places) where
  -- a place that was seen isn't appended
  pub place_stays : added ≡ false → places ≡ places ++ cond (list_any (is_place p) places) [] (p ∷ [])
  place_stays old = sym (ap (λ (b : Bool). places ++ cond b [] (p ∷ [])) (sym is ∙ seen_so known (sym tells ∙ old)) ∙ append-nil places)

  -- one that is new is
  pub place_comes : added ≡ true → places ++ p ∷ [] ≡ places ++ cond (list_any (is_place p) places) [] (p ∷ [])
  place_comes new = sym (ap (λ (b : Bool). places ++ cond b [] (p ∷ [])) (sym is ∙ new_so known (sym tells ∙ new)))

pub either_of : (known here : Bool) → cond here true known ≡ (known || here)
either_of true true = refl
either_of true false = refl
either_of false true = refl
either_of false false = refl

no_more : (b : Bool) → b ≡ (b || false)
no_more true = refl
no_more false = refl

-- the places that were seen, with one more
pub seen_more : (places : List Place) (p q : Place) (before : Bool) → before ≡ list_any (is_place q) places → cond (is_at (place_order (place_key p)) (place_key q)) true before ≡ list_any (is_place q) (places ++ p ∷ [])
seen_more places p q before is =
    ap (λ (b : Bool). cond b true before) (keys_tell p q ∙ either_way p q)
    ∙ either_of before (is_place q p)
    ∙ ap (λ (b : Bool). b || is_place q p) is
    ∙ ap (λ (b : Bool). list_any (is_place q) places || b) (no_more (is_place q p))
    ∙ sym (list_any-append (is_place q) places (p ∷ []))
