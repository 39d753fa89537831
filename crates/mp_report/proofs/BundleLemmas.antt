-- Lemmas on what is found at bundles.
use Rattle.mp_report.proofs.Names.{ap, sym, ◌∙◌, nat_lt, ◌&&◌, ◌≡◌, ◌+◌, ◌-◌, ◌<◌, ◌≤◌, ℕ, inl, inr, true, false, [], map, min, nat_le, Some, None, filter, flat_map, refl, arith, list_any, range_with_len, cases_lt, nat_tests, by_number, has_event, Circuit, bundle_at, changes, is_found_at_bundle, bundle_place, bundle_set, findings_of, found_over, BundleRecord}
use Rattle.mp_model.proofs.MemberLemmas.{any_passes, contains_range}
use Rattle.mp_report.proofs.TimeLemmas.{told_quiet, told_none, told_same}
use Rattle.std.proofs.lemmas.List.Folds.{list_any_none}
use Rattle.std.proofs.lemmas.List.FromFn.{get_or-range_with_len, length-range_with_len}

-- a request event comes soon, where the next one is below the horizon and no later than the setup
pub soon_is : (f : ℕ → ℕ) (t s h event : ℕ) → t ≤ event → (event < h → has_event f event ≡ true) → ((u : ℕ) → t ≤ u → u < event → u < h → has_event f u ≡ false)
    → (nat_lt event h && nat_le (event - t) s) ≡ list_any (has_event f) (range_with_len t (min (s + 1) (h - t)))
soon_is f t s h event since is none =
    let k = min (s + 1) (h - t) in
    elim (cases_lt event (t + min (s + 1) (h - t))) [
      | inl soon ↦ grind (arith, nat_tests, soon, (any_passes (has_event f) event (range_with_len t k) (contains_range t k event since soon) (is (omega (arith, soon)))))
      | inr late ↦ grind (
        arith,
        nat_tests,
        late,
        (list_any_none (has_event f) (range_with_len t k) (λ i d within.
            let inside : i < min (s + 1) (h - t) = omega (arith, within, length-range_with_len t k) in
            rw (get_or-range_with_len t k i d inside) (none (t + i) (omega arith) (omega (arith, inside, late)) (omega (arith, inside))))),
      )
    ]

-- nothing is found where nothing changes
pub quiet_set : (n : Circuit) (r : BundleRecord) (t : ℕ) → (changes n r.request t ≡ false) × (changes n r.acknowledge t ≡ false) × (changes n r.payload t ≡ false) → findings_of t (bundle_set n r t) ≡ []
unfolding findings_of
quiet_set n r t quiet = rw (quiet.0, quiet.1, quiet.2) refl

-- and up to a time before which nothing changes
pub quiet_upto : (n : Circuit) (r : BundleRecord) (from t : ℕ) → 1 ≤ from → from ≤ t → ((u : ℕ) → from ≤ u → u < t → (changes n r.request u ≡ false) × (changes n r.acknowledge u ≡ false) × (changes n r.payload u ≡ false))
    → flat_map (λ u. findings_of u (bundle_set n r u)) (range_with_len 1 (t - 1)) ≡ flat_map (λ u. findings_of u (bundle_set n r u)) (range_with_len 1 (from - 1))
quiet_upto n r from t some order quiet =
    let all : from - 1 + (t - from) ≡ t - 1 = omega (arith, some, order) in
    ap (λ k. flat_map (λ u. findings_of u (bundle_set n r u)) (range_with_len 1 k)) (sym all)
    ∙ told_quiet (λ u. findings_of u (bundle_set n r u)) 1 (from - 1) (t - from) (λ u low high. quiet_set n r u (quiet u (omega (arith, low)) (omega (arith, high, some, order))))

-- what is found at a bundle that stands
pub bundle_over : (n : Circuit) (b : ℕ) (r : BundleRecord) → bundle_at n b ≡ Some r → flat_map (λ t. findings_of t (bundle_set n r t)) (range_with_len 1 (n.horizon - 1)) ≡ found_over n (bundle_place b)
unfolding found_over findings_of
bundle_over n b r at =
    let found_is : (t : ℕ) → findings_of t (bundle_set n r t) ≡ map (λ code. (t, code)) (filter (is_found_at_bundle n (Some r) t) by_number) = (λ t. grind (arith, nat_tests)) in
    grind (arith, nat_tests, told_same, found_is)

-- nothing is found where none stands
pub no_bundle_over : (n : Circuit) (b : ℕ) → bundle_at n b ≡ None → [] ≡ found_over n (bundle_place b)
unfolding found_over
no_bundle_over n b at = grind (arith, nat_tests, told_none)
