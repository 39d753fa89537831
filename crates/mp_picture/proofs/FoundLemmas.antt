-- The places of findings, and marks.
use Rattle.std.proofs.Common.{◌≡◌, ℕ, ◌+◌, ◌<◌, Bool, true, false, not, cond, ◌||◌, ◌&&◌, List, [], ◌∷◌, ◌++◌, length, get_or, take, refl, sym, ap, ◌∙◌, arith}
use Rattle.std.proofs.lemmas.Bool.Decides.{nat_tests}
use Rattle.std.proofs.lemmas.Bool.{eqb-true}
use Rattle.std.specs.List.{filter, list_any}
use Rattle.std.proofs.lemmas.List.{take_more}
use Rattle.std.proofs.lemmas.List.Elements.{filter-append}
use Rattle.std.proofs.lemmas.Map.Views.{any-filter_same}
use Rattle.mp_model.specs.declared.finding.Place.{Place}
use Rattle.mp_model.specs.declared.finding.Place.TheVariants.{Module, Bundle}
use Rattle.mp_model.specs.declared.finding.Finding.{Finding}
use Rattle.mp_picture.specs.Found.{is_place, places_of}

-- the same place
pub one_place : (p q : Place) → is_place p q ≡ true → p ≡ q
one_place (Module m) (Module k) is = ap (λ n. Module (record { 0 = n })) (eqb-true m.0 k.0 is)
one_place (Module m) (Bundle b) is = cc
one_place (Bundle b) (Module m) is = cc
one_place (Bundle b) (Bundle d) is = ap (λ n. Bundle (record { 0 = n })) (eqb-true b.0 d.0 is)

pub either_way : (p q : Place) → is_place p q ≡ is_place q p
either_way (Module m) (Module k) = grind (arith, nat_tests)
either_way (Module m) (Bundle b) = refl
either_way (Bundle b) (Module m) = refl
either_way (Bundle b) (Bundle d) = grind (arith, nat_tests)

-- other places than one
abbrev others : Place → Place → Bool
others p q = not (is_place p q)

kept : (p q : Place) (b : Bool) → is_place p q ≡ false → filter (others p) (cond b [] (q ∷ [])) ≡ cond b [] (q ∷ [])
kept p q true other = refl
kept p q false other = ap (λ (v : Bool). cond (not v) (q ∷ []) []) other

left_out : (p q : Place) (b : Bool) → is_place p q ≡ true → filter (others p) (cond b [] (q ∷ [])) ≡ []
left_out p q true same = refl
left_out p q false same = ap (λ (v : Bool). cond (not v) (q ∷ []) []) same

-- with one finding more
module _ (f g : Finding) (gs : List Finding) where
  abbrev known : Bool
  known = list_any (is_place f.place) (places_of gs)

  abbrev behind : List Place
  behind = filter (others g.place) (places_of gs)

  by_first : (b : Bool) → is_place g.place f.place ≡ b
      → filter (others g.place) (cond known [] (f.place ∷ [])) ≡ cond (is_place f.place g.place || list_any (is_place f.place) behind) [] (f.place ∷ [])
  by_first true same =
      left_out g.place f.place known same
      ∙ ap (λ (v : Bool). cond (v || list_any (is_place f.place) behind) [] (f.place ∷ [])) (sym (either_way f.place g.place ∙ same))
  by_first false other =
      let all : list_any (is_place f.place) behind ≡ (true && known) =
      any-filter_same (is_place f.place) (others g.place) true
      (λ k is. ap not (ap (is_place g.place) (sym (one_place f.place k is)) ∙ other)) (places_of gs) in
      kept g.place f.place known other
      ∙ ap (λ (v : Bool). cond v [] (f.place ∷ [])) (sym all)
      ∙ ap (λ (v : Bool). cond (v || list_any (is_place f.place) behind) [] (f.place ∷ [])) (sym (either_way f.place g.place ∙ other))

pub places_more : (f : Finding) (fs : List Finding) → places_of (fs ++ f ∷ []) ≡ places_of fs ++ cond (list_any (is_place f.place) (places_of fs)) [] (f.place ∷ [])
places_more f [] = refl
places_more f (g ∷ gs) =
    ap (λ (ps : List Place). g.place ∷ filter (others g.place) ps) (places_more f gs)
    ∙ ap (λ (ps : List Place). g.place ∷ ps)
    (filter-append (others g.place) (places_of gs) (cond (list_any (is_place f.place) (places_of gs)) [] (f.place ∷ []))
    ∙ ap (λ (ps : List Place). filter (others g.place) (places_of gs) ++ ps) (by_first f g gs (is_place g.place f.place) refl))

-- with the place of one finding more
pub place_next : (fs : List Finding) (i : ℕ) (d : Finding) (items : List Place) → i < length fs → items ≡ places_of (take i fs)
    → items ++ cond (list_any (is_place (get_or fs i d).place) items) [] ((get_or fs i d).place ∷ []) ≡ places_of (take (i + 1) fs)
place_next fs i d items within done =
    sym
    (ap places_of (take_more fs i d within)
    ∙ places_more (get_or fs i d) (take i fs)
    ∙ ap (λ (ps : List Place). ps ++ cond (list_any (is_place (get_or fs i d).place) ps) [] ((get_or fs i d).place ∷ [])) (sym done))
