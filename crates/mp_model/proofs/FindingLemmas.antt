-- A finding is told exactly where its rule holds.
use Rattle.std.proofs.Common.{◌≡◌, ◌≢◌, ℕ, ◌+◌, ◌-◌, ◌<◌, ◌≤◌, ◌==◌, inl, inr, Bool, true, false, not, ◌&&◌, List, map, length, min, Option, Some, None, zero, suc, refl, ap, sym, subst, ◌∙◌, true≢false, arith, Contains, filter, flat_map, slice_index_or}
use Rattle.std.specs.List.{range_with_len}
use Rattle.std.proofs.lemmas.Bool.{cases_Bool, cases_lt, and_parts}
use Rattle.std.proofs.lemmas.Bool.Decides.{nat_tests}
use Rattle.std.proofs.lemmas.List.{get_or_past}
use Rattle.std.proofs.lemmas.List.Elements.{Contains-append_left, Contains-append_right}
use Rattle.mp_modules.specs.declared.finding_code.FindingCode.{FindingCode}
use Rattle.mp_modules.specs.declared.finding_code.FindingCode.TheVariants as codes
use Rattle.mp_modules.specs.Findings.{by_number}
use Rattle.mp_modules.specs.Histories.{has_event}
use Rattle.mp_records.specs.declared.module_record.ModuleRecord.{ModuleRecord}
use Rattle.mp_records.specs.declared.bundle_record.BundleRecord.{BundleRecord}
use Rattle.mp_netlist.specs.Circuit.{Circuit, module_at, bundle_at}
use Rattle.mp_model.specs.Waves.{level}
use Rattle.mp_model.specs.Findings.{changes, is_busy, is_requested_soon, is_found_at_module, is_found_at_bundle, is_found, module_place, bundle_place, places, found_at, findings}
use Rattle.mp_model.specs.FindingLaws.{IsBusy, IsRequestedSoon, BundleRule, Rule, FindsByRule}
use Rattle.mp_model.specs.declared.finding.Place.{Place}
use Rattle.mp_model.specs.declared.finding.Place.TheVariants.{Module, Bundle}
use Rattle.mp_model.specs.declared.finding.Finding.{Finding}
use Rattle.mp_model.proofs.MemberLemmas.{contains_filter, filter_contains, any_passes, passes_any, contains_map, map_contains, contains_flat_map, flat_map_contains, contains_range, range_contains}

-- ---- tests and what they say

not_same : (a b : ℕ) → not (a == b) ≡ true → a ≢ b
not_same a b test same = let yes : (a == b) ≡ true = grind (arith, nat_tests) in true≢false (sym test ∙ ap not yes)

is_other : (a b : ℕ) → a ≢ b → not (a == b) ≡ true
is_other a b other = let no : (a == b) ≡ false = grind (arith, nat_tests) in ap not no

event_said : (f : ℕ → ℕ) (t : ℕ) → has_event f t ≡ true → f (t - 1) ≢ f t
event_said f zero fails = absurd (true≢false (sym fails))
event_said f (suc t) test = let back : suc t - 1 ≡ t = omega arith in subst (λ (u : ℕ). f u ≢ f (suc t)) (sym back) (not_same (f t) (f (suc t)) test)

event_seen : (f : ℕ → ℕ) (t : ℕ) → f (t - 1) ≢ f t → has_event f t ≡ true
event_seen f zero other = absurd (other refl)
event_seen f (suc t) other = let back : suc t - 1 ≡ t = omega arith in is_other (f t) (f (suc t)) (subst (λ (u : ℕ). f u ≢ f (suc t)) back other)

both_true : (a b : Bool) → a ≡ true → b ≡ true → a && b ≡ true
both_true true b first second = second
both_true false b first second = first

free_said : (n : Circuit) (b : BundleRecord) (t : ℕ) → not (is_busy n b t) ≡ true → IsBusy n b t → ⊥
free_said n b t test busy = true≢false (sym test ∙ ap not (is_other (level n b.request.0 t) (level n b.acknowledge.0 t) busy))

free_seen : (n : Circuit) (b : BundleRecord) (t : ℕ) → ¬ IsBusy n b t → not (is_busy n b t) ≡ true
free_seen n b t free = elim (cases_Bool (is_busy n b t)) as (λ _. not (is_busy n b t) ≡ true) [
  | inl busy ↦ absurd (free (not_same (level n b.request.0 t) (level n b.acknowledge.0 t) busy))
  | inr none ↦ ap not none
]

soon_said : (n : Circuit) (b : BundleRecord) (t : ℕ) → is_requested_soon n b t ≡ true → IsRequestedSoon n b t
soon_said n b t test =
    let found = passes_any (changes n b.request) (range_with_len t (min (b.setup + 1) (n.horizon - t))) test in
    let within = range_contains t (min (b.setup + 1) (n.horizon - t)) found.0 found.1 in
    record {
      at = found.0;
      since = within.0;
      until = omega (arith, within.1);
      within = omega (arith, within.1, within.0);
      event = event_said (level n b.request.0) found.0 found.2;
    }

soon_seen : (n : Circuit) (b : BundleRecord) (t : ℕ) → IsRequestedSoon n b t → is_requested_soon n b t ≡ true
soon_seen n b t soon =
    any_passes (changes n b.request) soon.at (range_with_len t (min (b.setup + 1) (n.horizon - t)))
    (contains_range t (min (b.setup + 1) (n.horizon - t)) soon.at soon.since (omega (arith, soon.since, soon.until, soon.within)))
    (event_seen (level n b.request.0) soon.at soon.event)

bundle_said : (n : Circuit) (b : BundleRecord) (t : ℕ) (code : FindingCode) → is_found_at_bundle n (Some b) t code ≡ true → BundleRule n b t code
bundle_said n b t codes.DataWhileBusy test =
    let parts = and_parts (changes n b.payload t) (is_busy n b (t - 1)) test in
    (event_said (level n b.payload.0) t parts.0, not_same (level n b.request.0 (t - 1)) (level n b.acknowledge.0 (t - 1)) parts.1)
bundle_said n b t codes.Setup test =
    let parts = and_parts (changes n b.payload t) (is_requested_soon n b t) test in
    (event_said (level n b.payload.0) t parts.0, soon_said n b t parts.1)
bundle_said n b t codes.RequestWhileBusy test =
    let parts = and_parts (changes n b.request t) (is_busy n b (t - 1)) test in
    (event_said (level n b.request.0) t parts.0, not_same (level n b.request.0 (t - 1)) (level n b.acknowledge.0 (t - 1)) parts.1)
bundle_said n b t codes.AckWhileIdle test =
    let parts = and_parts (changes n b.acknowledge t) (not (is_busy n b (t - 1))) test in
    (event_said (level n b.acknowledge.0) t parts.0, free_said n b (t - 1) parts.1)
bundle_said n b t codes.MergeCollision test = absurd (true≢false (sym test))
bundle_said n b t codes.Withdrawn test = absurd (true≢false (sym test))
bundle_said n b t codes.SelectUnstable test = absurd (true≢false (sym test))
bundle_said n b t codes.CallOverlap test = absurd (true≢false (sym test))
bundle_said n b t codes.DoneWithoutCall test = absurd (true≢false (sym test))
bundle_said n b t codes.RepeatRequest test = absurd (true≢false (sym test))
bundle_said n b t codes.DoneWithoutGrant test = absurd (true≢false (sym test))
bundle_said n b t codes.CaptureWhileHeld test = absurd (true≢false (sym test))
bundle_said n b t codes.PassWhileOpen test = absurd (true≢false (sym test))
bundle_said n b t codes.DataAtCapture test = absurd (true≢false (sym test))

bundle_seen : (n : Circuit) (b : BundleRecord) (t : ℕ) (code : FindingCode) → BundleRule n b t code → is_found_at_bundle n (Some b) t code ≡ true
bundle_seen n b t codes.DataWhileBusy rule =
    both_true (changes n b.payload t) (is_busy n b (t - 1)) (event_seen (level n b.payload.0) t rule.0) (is_other (level n b.request.0 (t - 1)) (level n b.acknowledge.0 (t - 1)) rule.1)
bundle_seen n b t codes.Setup rule =
    both_true (changes n b.payload t) (is_requested_soon n b t) (event_seen (level n b.payload.0) t rule.0) (soon_seen n b t rule.1)
bundle_seen n b t codes.RequestWhileBusy rule =
    both_true (changes n b.request t) (is_busy n b (t - 1)) (event_seen (level n b.request.0) t rule.0) (is_other (level n b.request.0 (t - 1)) (level n b.acknowledge.0 (t - 1)) rule.1)
bundle_seen n b t codes.AckWhileIdle rule =
    both_true (changes n b.acknowledge t) (not (is_busy n b (t - 1))) (event_seen (level n b.acknowledge.0) t rule.0) (free_seen n b (t - 1) rule.1)
bundle_seen n b t codes.MergeCollision rule = absurd rule
bundle_seen n b t codes.Withdrawn rule = absurd rule
bundle_seen n b t codes.SelectUnstable rule = absurd rule
bundle_seen n b t codes.CallOverlap rule = absurd rule
bundle_seen n b t codes.DoneWithoutCall rule = absurd rule
bundle_seen n b t codes.RepeatRequest rule = absurd rule
bundle_seen n b t codes.DoneWithoutGrant rule = absurd rule
bundle_seen n b t codes.CaptureWhileHeld rule = absurd rule
bundle_seen n b t codes.PassWhileOpen rule = absurd rule
bundle_seen n b t codes.DataAtCapture rule = absurd rule

-- ---- what is found at a place

found_said : (n : Circuit) (place : Place) (t : ℕ) (code : FindingCode) → is_found n place t code ≡ true → Rule n place t code
found_said n (Module m) t code test = by (module_at n m.0) refl test
  where
    by : (slot : Option ModuleRecord) → module_at n m.0 ≡ slot → is_found_at_module n m.0 slot t code ≡ true → Rule n (Module m) t code
    by None at fails = absurd (true≢false (sym fails))
    by (Some r) at test = (r, at, test)
found_said n (Bundle b) t code test = by (bundle_at n b.0) refl test
  where
    by : (slot : Option BundleRecord) → bundle_at n b.0 ≡ slot → is_found_at_bundle n slot t code ≡ true → Rule n (Bundle b) t code
    by None at fails = absurd (true≢false (sym fails))
    by (Some r) at test = (r, at, bundle_said n r t code test)

found_seen : (n : Circuit) (place : Place) (t : ℕ) (code : FindingCode) → Rule n place t code → is_found n place t code ≡ true
found_seen n (Module m) t code rule = ap (λ slot. is_found_at_module n m.0 slot t code) rule.1 ∙ rule.2
found_seen n (Bundle b) t code rule = ap (λ slot. is_found_at_bundle n slot t code) rule.1 ∙ bundle_seen n rule.0 t code rule.2

-- ---- what is told

some_within : {A : Type 0} (xs : List (Option A)) (i : ℕ) (x : A) → slice_index_or xs i None ≡ Some x → i < length xs
some_within xs i x is = elim (cases_lt i (length xs)) as (λ _. i < length xs) [
  | inl within ↦ within
  | inr past ↦ let none = get_or_past xs i None past in cc
]

place_is : (n : Circuit) (place : Place) (t : ℕ) (code : FindingCode) → Rule n place t code → Contains (places n) place
place_is n (Module m) t code rule =
    Contains-append_left (map module_place (range_with_len 0 (length n.modules))) (map bundle_place (range_with_len 0 (length n.bundles))) (Module m)
    (contains_map module_place m.0 (range_with_len 0 (length n.modules)) (contains_range 0 (length n.modules) m.0 (omega arith) (omega (arith, some_within n.modules m.0 rule.0 rule.1))))
place_is n (Bundle b) t code rule =
    Contains-append_right (map module_place (range_with_len 0 (length n.modules))) (map bundle_place (range_with_len 0 (length n.bundles))) (Bundle b)
    (contains_map bundle_place b.0 (range_with_len 0 (length n.bundles)) (contains_range 0 (length n.bundles) b.0 (omega arith) (omega (arith, some_within n.bundles b.0 rule.0 rule.1))))

all_codes : (code : FindingCode) → Contains by_number code
all_codes codes.MergeCollision = (0, omega arith, refl)
all_codes codes.Withdrawn = (1, omega arith, refl)
all_codes codes.SelectUnstable = (2, omega arith, refl)
all_codes codes.CallOverlap = (3, omega arith, refl)
all_codes codes.DoneWithoutCall = (4, omega arith, refl)
all_codes codes.RepeatRequest = (5, omega arith, refl)
all_codes codes.DoneWithoutGrant = (6, omega arith, refl)
all_codes codes.CaptureWhileHeld = (7, omega arith, refl)
all_codes codes.PassWhileOpen = (8, omega arith, refl)
all_codes codes.DataAtCapture = (9, omega arith, refl)
all_codes codes.DataWhileBusy = (10, omega arith, refl)
all_codes codes.Setup = (11, omega arith, refl)
all_codes codes.RequestWhileBusy = (12, omega arith, refl)
all_codes codes.AckWhileIdle = (13, omega arith, refl)

abbrev finding_of : ℕ → Place → FindingCode → Finding
finding_of t place code = record { time = t; place = place; code = code }

told_at : (n : Circuit) (f : Finding) → Rule n f.place f.time f.code → Contains (found_at n f.time f.place) f
told_at n f rule =
    contains_map (finding_of f.time f.place) f.code (filter (is_found n f.place f.time) by_number)
    (contains_filter (is_found n f.place f.time) f.code by_number (all_codes f.code) (found_seen n f.place f.time f.code rule))

told : (n : Circuit) (f : Finding) → 1 ≤ f.time → f.time < n.horizon → Rule n f.place f.time f.code → Contains (findings n) f
unfolding findings
told n f low high rule =
    contains_flat_map (λ t. flat_map (found_at n t) (places n)) f.time f (range_with_len 1 (n.horizon - 1)) (contains_range 1 (n.horizon - 1) f.time low (omega arith))
    (contains_flat_map (found_at n f.time) f.place f (places n) (place_is n f.place f.time f.code rule) (told_at n f rule))

said_at : (n : Circuit) (t : ℕ) (place : Place) (f : Finding) → Contains (found_at n t place) f → (f.time ≡ t) × Rule n f.place f.time f.code
said_at n t place f at =
    let found = map_contains (finding_of t place) f (filter (is_found n place t) by_number) at in
    let rule = found_said n place t found.0 (filter_contains (is_found n place t) found.0 by_number found.1) in
    (ap (λ (g : Finding). g.time) (sym found.2), subst (λ (g : Finding). Rule n g.place g.time g.code) found.2 rule)

said : (n : Circuit) (f : Finding) → Contains (findings n) f → (1 ≤ f.time) × (f.time < n.horizon) × Rule n f.place f.time f.code
unfolding findings
said n f at =
    let time = flat_map_contains (λ t. flat_map (found_at n t) (places n)) f (range_with_len 1 (n.horizon - 1)) at in
    let within = range_contains 1 (n.horizon - 1) time.0 time.1 in
    let place = flat_map_contains (found_at n time.0) f (places n) time.2 in
    let here = said_at n time.0 place.0 f place.2 in
    (omega (arith, here.0, within.0), omega (arith, here.0, within.0, within.1), here.1)

pub finds_by_rule : FindsByRule
finds_by_rule n f = (said n f, λ w. told n f w.0 w.1 w.2)
