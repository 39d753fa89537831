-- Findings by place, sorted by time, are the findings by time.
use Rattle.mp_report.proofs.Names.{map-append, ◌≡◌, ◌+◌, ◌-◌, ◌==◌, ◌&&◌, ◌∷◌, ℕ, Bool, true, false, cond, nat_le, nat_lt, List, [], map, filter, flat_map, nat_cmp, zero, suc, refl, ap, ◌∙◌, arith, range_with_len, nat_tests, FindingCode, MergeCollision, Circuit, Place, Finding, codes_at, found_over, finding_at, found_by_place}
use Rattle.std.specs.List.Sorted.{IsNonDecreasingBy, IsStableByKey}
use Rattle.std.proofs.lemmas.List.Elements.{filter-append}
use Rattle.mp_model.specs.Findings.{module_place, places, found_at, findings}
use Rattle.mp_report.proofs.SortedLemmas.{is_at, filter_flat_map, one_time, same_at, by_times}
use Rattle.mp_report.proofs.TimeLemmas.{told_none, told_same}

abbrev pub time_of : Finding → ℕ
time_of f = f.time

-- what is found at a place at one time, among what is found at another, and at several
found_alone : (place : Place) (t u : ℕ) (codes : List FindingCode)
    → filter (is_at time_of t) (map (finding_at place) (map (λ code. (u, code)) codes)) ≡ cond (u == t) (map (λ code. record { time = u; place = place; code = code }) codes) []
found_alone place t u [] = grind (arith, nat_tests)
found_alone place t u (code ∷ codes) = grind (arith, nat_tests, (found_alone place t u codes))

found_among : (n : Circuit) (place : Place) (t a m : ℕ)
    → filter (is_at time_of t) (map (finding_at place) (flat_map (codes_at n place) (range_with_len a m))) ≡ cond (nat_le a t && nat_lt t (a + m)) (found_at n t place) []
found_among n place t a zero = grind (arith, nat_tests)
found_among n place t a (suc m) = simp (map-append, filter-append, found_alone, (found_among n place t (a + 1) m)) (one_time (λ u. found_at n u place) t a m)

all_or_none : (b : Bool) (f : Place → List Finding) (all : List Place) → flat_map (λ place. cond b (f place) []) all ≡ cond b (flat_map f all) []
all_or_none true f all = refl
all_or_none false f all = told_none (λ place. []) (λ place. refl) all

-- the findings by place, sorted by time
pub sorted_findings : (n : Circuit) (xs ys : List Finding) → xs ≡ found_by_place n (places n) → IsNonDecreasingBy time_of ys → IsStableByKey time_of nat_cmp xs ys → ys ≡ findings n
unfolding findings found_over
sorted_findings n xs ys are rises stable =
    let m = n.horizon - 1 in
    let at : (t : ℕ) → filter (is_at time_of t) ys ≡ cond (nat_le 1 t && nat_lt t (1 + m)) (flat_map (found_at n t) (places n)) [] =
    (λ t. same_at time_of xs ys stable (record { time = t; place = module_place 0; code = MergeCollision }) ∙ ap (filter (is_at time_of t)) are
    ∙ filter_flat_map (is_at time_of t) (λ place. map (finding_at place) (found_over n place)) (places n)
    ∙ told_same (λ place. filter (is_at time_of t) (map (finding_at place) (found_over n place))) (λ place. cond (nat_le 1 t && nat_lt t (1 + m)) (found_at n t place) []) (λ place. found_among n place t 1 m) (places n)
    ∙ all_or_none (nat_le 1 t && nat_lt t (1 + m)) (found_at n t) (places n)) in
    by_times time_of (λ t. flat_map (found_at n t) (places n)) m ys rises at
