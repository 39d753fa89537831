-- What is late at each bundle, sorted by time, is what is late at each time.
use Rattle.std.proofs.Common.{◌≡◌, ℕ, ◌+◌, ◌-◌, ◌==◌, ◌&&◌, Bool, true, false, cond, nat_le, nat_lt, List, [], ◌∷◌, ◌++◌, length, map, filter, flat_map, Option, Some, None, option_map, zero, suc, refl, ap, ◌∙◌, arith}
use Rattle.std.specs.List.{filter_map, cons_option, range_with_len}
use Rattle.std.specs.List.Sorted.{IsNonDecreasingBy, IsStableByKey}
use Rattle.std.specs.Ordering.{nat_cmp}
use Rattle.std.proofs.lemmas.Bool.Decides.{nat_tests}
use Rattle.mp_records.specs.declared.ids.BundleId.{BundleId}
use Rattle.mp_records.specs.declared.bundle_record.BundleRecord.{BundleRecord}
use Rattle.mp_netlist.specs.Circuit.{Circuit, bundle_at}
use Rattle.mp_report.proofs.SortedLemmas.{is_at, filter_flat_map, one_time, same_at, by_times}
use Rattle.mp_questions.specs.late.Lateness.{late_by, late_units, late_in, late_at, all_late}
use Rattle.mp_questions.specs.late.Searching.{bundle_numbers, late_over}
use Rattle.mp_questions.specs.declared.late.late.Late.{Late}

abbrev pub time_of : Late → ℕ
time_of l = l.time

-- ---- what is late at a bundle at one time, among what is late at others

abbrev alone : Option Late → List Late
alone o = cons_option o []

late_alone : (k t u : ℕ) (units : Option ℕ) (rest : List Late) → filter (is_at time_of t) (cons_option (option_map (late_by k u) units) rest) ≡ cond (u == t) (alone (option_map (late_by k u) units)) [] ++ filter (is_at time_of t) rest
late_alone k t u None rest = by (u == t)
  where
    by : (b : Bool) → filter (is_at time_of t) rest ≡ cond b [] [] ++ filter (is_at time_of t) rest
    by true = refl
    by false = refl
late_alone k t u (Some units) rest = by (u == t)
  where
    by : (b : Bool) → cond b (late_by k u units ∷ filter (is_at time_of t) rest) (filter (is_at time_of t) rest) ≡ cond b (late_by k u units ∷ []) [] ++ filter (is_at time_of t) rest
    by true = refl
    by false = refl

late_slot : (n : Circuit) (k t u : ℕ) (slot : Option BundleRecord) (rest : List Late) → filter (is_at time_of t) (cons_option (late_in n u k slot) rest) ≡ cond (u == t) (alone (late_in n u k slot)) [] ++ filter (is_at time_of t) rest
late_slot n k t u None rest = late_alone k t u None rest
late_slot n k t u (Some b) rest = late_alone k t u (late_units n b u) rest

late_among : (n : Circuit) (k t a m : ℕ) → filter (is_at time_of t) (filter_map (λ u. late_at n u k) (range_with_len a m)) ≡ cond (nat_le a t && nat_lt t (a + m)) (alone (late_at n t k)) []
late_among n k t a zero = grind (arith, nat_tests)
late_among n k t a (suc m) =
    late_slot n k t a (bundle_at n k) (filter_map (λ u. late_at n u k) (range_with_len (a + 1) m))
    ∙ ap (λ l. cond (a == t) (alone (late_at n a k)) [] ++ l) (late_among n k t (a + 1) m) ∙ one_time (λ u. alone (late_at n u k)) t a m

all_alone : (n : Circuit) (t a m : ℕ) → flat_map (λ (id : BundleId). alone (late_at n t id.0)) (map (λ k. record { 0 = k }) (range_with_len a m)) ≡ filter_map (late_at n t) (range_with_len a m)
all_alone n t a zero = refl
all_alone n t a (suc m) = by (late_at n t a) (all_alone n t (a + 1) m)
  where
    by : (o : Option Late) {xs ys : List Late} → xs ≡ ys → alone o ++ xs ≡ cons_option o ys
    by None same = same
    by (Some l) same = ap (λ ls. l ∷ ls) same

none_alone : (ids : List BundleId) → flat_map (λ (id : BundleId). let none : List Late = [] in none) ids ≡ []
none_alone [] = refl
none_alone (id ∷ ids) = none_alone ids

at_time : (n : Circuit) (t : ℕ) (b : Bool) → flat_map (λ (id : BundleId). cond b (alone (late_at n t id.0)) []) (bundle_numbers n) ≡ cond b (filter_map (late_at n t) (range_with_len 0 (length n.bundles))) []
at_time n t true = all_alone n t 0 (length n.bundles)
at_time n t false = none_alone (bundle_numbers n)

-- what is late by bundle, sorted by time
pub sorted_late : (n : Circuit) (xs ys : List Late) → xs ≡ flat_map (late_over n) (bundle_numbers n) → IsNonDecreasingBy time_of ys → IsStableByKey time_of nat_cmp xs ys → ys ≡ all_late n
unfolding late_over
sorted_late n xs ys are rises stable =
    let m = n.horizon - 1 in
    let at : (t : ℕ) → filter (is_at time_of t) ys ≡ cond (nat_le 1 t && nat_lt t (1 + m)) (filter_map (late_at n t) (range_with_len 0 (length n.bundles))) [] =
    (λ t. same_at time_of xs ys stable (record { time = t; bundle = record { 0 = 0 }; units = 0 }) ∙ ap (filter (is_at time_of t)) are ∙ filter_flat_map (is_at time_of t) (late_over n) (bundle_numbers n)
    ∙ (λ i. flat_map (λ (id : BundleId). late_among n id.0 t 1 m i) (bundle_numbers n)) ∙ at_time n t (nat_le 1 t && nat_lt t (1 + m))) in
    by_times time_of (λ t. filter_map (late_at n t) (range_with_len 0 (length n.bundles))) m ys rises at
