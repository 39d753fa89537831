-- The findings of a netlist rise by time, place and code, and no other list that does has them.
use Rattle.std.proofs.Common.{◌≡◌, ⊎_elim, inl, inr, ℕ, ◌-◌, ◌<◌, Bool, true, ◌&&◌, nat_lt, List, [], ◌∷◌, map, length, refl, sym, ap, subst, ◌∙◌, arith, Contains, filter, flat_map}
use Rattle.std.specs.List.{range_with_len, list_all}
use Rattle.std.proofs.lemmas.Bool.{and_parts, ltb-true}
use Rattle.mp_modules.specs.declared.finding_code.FindingCode.{FindingCode}
use Rattle.mp_modules.specs.Findings.{code_number, by_number}
use Rattle.mp_netlist.specs.Circuit.{Circuit}
use Rattle.mp_model.specs.Findings.{is_found, module_place, bundle_place, places, found_at, findings}
use Rattle.mp_model.specs.declared.finding.Place.{Place}
use Rattle.mp_model.specs.declared.finding.Place.TheVariants.{Module, Bundle}
use Rattle.mp_model.specs.declared.finding.Finding.{Finding}
use Rattle.mp_model.proofs.MemberLemmas.{contains_cases, map_contains, flat_map_contains}
use Rattle.mp_model.proofs.FindingLemmas.{finds_by_rule}
use Rattle.mp_laws.specs.FindingOrder.{IsPlaceBefore, IsBeforeInUnit, IsBefore, AreInOrder, IsOnlyList}
use Rattle.mp_laws.proofs.OrderLemmas.{Rises, rises_pairs, pairs_rise, rises_append, rises_filter, rises_map, rises_flat_map, rises_range, one_list}

-- ---- codes and places

abbrev IsCodeBefore : FindingCode → FindingCode → Type 0
IsCodeBefore a b = code_number a < code_number b

abbrev codes_rise : List FindingCode → Bool
codes_rise [] = true
codes_rise (code ∷ codes) = list_all (λ c. nat_lt (code_number code) (code_number c)) codes && codes_rise codes

passing : (p : FindingCode → Bool) (codes : List FindingCode) → list_all p codes ≡ true → (c : FindingCode) → Contains codes c → p c ≡ true
passing p [] all c at = absurd (omega (arith, at.1))
passing p (code ∷ codes) all c at =
    let parts = and_parts (p code) (list_all p codes) all in
    ⊎_elim (λ same. ap p (sym same) ∙ parts.0) (passing p codes parts.1 c) (contains_cases c code codes at)

rises_by_test : (codes : List FindingCode) → codes_rise codes ≡ true → Rises IsCodeBefore codes
rises_by_test [] test = tt
rises_by_test (code ∷ codes) test =
    let parts = and_parts (list_all (λ c. nat_lt (code_number code) (code_number c)) codes) (codes_rise codes) test in (
      λ c at. ltb-true (code_number code) (code_number c) (passing (λ d. nat_lt (code_number code) (code_number d)) codes parts.0 c at),
      rises_by_test codes parts.1,
    )

places_rise : (n : Circuit) → Rises IsPlaceBefore (places n)
places_rise n =
    let modules = range_with_len 0 (length n.modules) in
    let bundles = range_with_len 0 (length n.bundles) in
    rises_append IsPlaceBefore (map module_place modules) (map bundle_place bundles)
    (rises_map (λ (a b : ℕ). a < b) IsPlaceBefore module_place (λ a b below. below) modules (rises_range 0 (length n.modules)))
    (rises_map (λ (a b : ℕ). a < b) IsPlaceBefore bundle_place (λ a b below. below) bundles (rises_range 0 (length n.bundles)))
    (λ p q first second.
    let m = map_contains module_place p modules first in
    let b = map_contains bundle_place q bundles second in
    subst (λ (place : Place). IsPlaceBefore place q) m.2 (subst (IsPlaceBefore (module_place m.0)) b.2 tt))

-- ---- the findings

abbrev finding_of : ℕ → Place → FindingCode → Finding
finding_of t place code = record { time = t; place = place; code = code }

at_place : (n : Circuit) (t : ℕ) (place : Place) (f : Finding) → Contains (found_at n t place) f → (t ≡ f.time) × (place ≡ f.place)
at_place n t place f at =
    let found = map_contains (finding_of t place) f (filter (is_found n place t) by_number) at in
    (ap (λ (g : Finding). g.time) found.2, ap (λ (g : Finding). g.place) found.2)

place_rises : (n : Circuit) (t : ℕ) (place : Place) → Rises IsBefore (found_at n t place)
place_rises n t place =
    rises_map IsCodeBefore IsBefore (finding_of t place) (λ a b below. inr (refl, inr (refl, below))) (filter (is_found n place t) by_number)
    (rises_filter IsCodeBefore (is_found n place t) by_number (rises_by_test by_number refl))

unit_rises : (n : Circuit) (t : ℕ) → Rises IsBefore (flat_map (found_at n t) (places n))
unit_rises n t =
    rises_flat_map IsPlaceBefore IsBefore (found_at n t) (place_rises n t)
    (λ p q f g before first second.
    let here = at_place n t p f first in
    let there = at_place n t q g second in
    inr (sym here.0 ∙ there.0, inl (subst (λ (place : Place). IsPlaceBefore place g.place) here.1 (subst (IsPlaceBefore p) there.1 before))))
    (places n) (places_rise n)

in_unit : (n : Circuit) (t : ℕ) (f : Finding) → Contains (flat_map (found_at n t) (places n)) f → t ≡ f.time
in_unit n t f at = let place = flat_map_contains (found_at n t) f (places n) at in (at_place n t place.0 f place.2).0

findings_rise : (n : Circuit) → Rises IsBefore (findings n)
unfolding findings
findings_rise n =
    rises_flat_map (λ (t u : ℕ). t < u) IsBefore (λ t. flat_map (found_at n t) (places n)) (unit_rises n)
    (λ t u f g before first second. let here = in_unit n t f first in let there = in_unit n u g second in inl (omega (arith, before, here, there)))
    (range_with_len 1 (n.horizon - 1)) (rises_range 1 (n.horizon - 1))

pub in_order : AreInOrder
in_order n = rises_pairs IsBefore (findings n) (findings_rise n)

-- ---- no other list

place_one_way : (p q : Place) → IsPlaceBefore p q → IsPlaceBefore q p → ⊥
place_one_way (Module m) (Module k) first second = omega (arith, first, second)
place_one_way (Module m) (Bundle b) first second = second
place_one_way (Bundle b) (Module m) first second = first
place_one_way (Bundle b) (Bundle c) first second = omega (arith, first, second)

other_place : (p q : Place) → IsPlaceBefore p q → p ≡ q → ⊥
other_place p q before same = let own = subst (IsPlaceBefore p) (sym same) before in place_one_way p p own own

unit_one_way : (f g : Finding) → IsBeforeInUnit f g → IsBeforeInUnit g f → ⊥
unit_one_way f g (inl first) (inl second) = place_one_way f.place g.place first second
unit_one_way f g (inl first) (inr second) = other_place f.place g.place first (sym second.0)
unit_one_way f g (inr first) (inl second) = other_place g.place f.place second (sym first.0)
unit_one_way f g (inr first) (inr second) = omega (arith, first.1, second.1)

one_way : (f g : Finding) → IsBefore f g → IsBefore g f → ⊥
one_way f g (inl first) (inl second) = omega (arith, first, second)
one_way f g (inl first) (inr second) = omega (arith, first, second.0)
one_way f g (inr first) (inl second) = omega (arith, first.0, second)
one_way f g (inr first) (inr second) = unit_one_way f g first.1 second.1

pub only_list : IsOnlyList
only_list n fs pairs ruled =
    one_list IsBefore one_way fs (findings n) (pairs_rise IsBefore fs pairs) (findings_rise n)
    (λ f. (λ at. (finds_by_rule n f).1 ((ruled f).0 at), λ at. (ruled f).1 ((finds_by_rule n f).0 at)))
