-- When problems are, and groups in the order of their first ones.
use Rattle.std.proofs.Common.{◌≡◌, ℕ, ◌+◌, ◌-◌, ◌<◌, ◌≤◌, ◌==◌, ◌&&◌, Bool, true, false, not, cond, nat_le, nat_lt, List, [], ◌∷◌, All, map, filter, flat_map, length, Option, Some, None, option_map, zero, suc, refl, ap, ◌∙◌, arith}
use Rattle.std.specs.List.{cons_option, filter_map, range_with_len}
use Rattle.std.specs.List.Sorted.{IsNonDecreasingBy, IsStableByKey}
use Rattle.std.specs.Ordering.{nat_cmp}
use Rattle.std.proofs.lemmas.Bool.Decides.{nat_tests}
use Rattle.std.proofs.lemmas.List.Elements.{All-nil, All-cons, All-head, All-tail, All-append, All-weaker, All-map, All-filter}
use Rattle.mp_modules.specs.declared.finding_code.FindingCode.{FindingCode}
use Rattle.mp_records.specs.declared.bundle_record.BundleRecord.{BundleRecord}
use Rattle.mp_netlist.specs.Circuit.{Circuit, bundle_at}
use Rattle.mp_model.specs.Findings.{found_at, findings, is_found, places}
use Rattle.mp_model.specs.declared.finding.Place.{Place}
use Rattle.mp_model.specs.declared.finding.Finding.{Finding}
use Rattle.mp_modules.specs.Findings.{by_number}
use Rattle.mp_report.proofs.SortedLemmas.{is_at, same_at, by_times}
use Rattle.mp_questions.specs.Once.{firsts}
use Rattle.mp_questions.specs.declared.late.late.Late.{Late as LateData}
use Rattle.mp_questions.specs.late.Lateness.{all_late, late_at, late_by, late_in, late_units}
use Rattle.mp_check.specs.Problems.{by_first, group_of, groups, is_alike, problems, time_of}
use Rattle.mp_check.specs.Selections.{Selected, keeps_finding, keeps_late}
use Rattle.mp_check.specs.declared.group.Group.{Group}
use Rattle.mp_check.specs.declared.problem.Problem.{Problem}
use Rattle.mp_check.specs.declared.problem.Problem.TheVariants.{Found, Late}

-- ---- when something is found

abbrev pub IsWithin : ℕ → ℕ → ℕ → Type 0
IsWithin a k t = (a ≤ t) × (t < a + k)

all_flat : {X Y : Type 0} (P : Y → Type 0) (f : X → List Y) (xs : List X) → ((x : X) → All P (f x)) → All P (flat_map f xs)
all_flat P f [] each = All-nil P
all_flat P f (x ∷ xs) each = All-append P (f x) (flat_map f xs) (each x) (all_flat P f xs each)

-- what is told time by time
ranged : {X : Type 0} (time : X → ℕ) (told : ℕ → List X) → ((t : ℕ) → All (λ x. time x ≡ t) (told t)) → (a k : ℕ) → All (λ x. IsWithin a k (time x)) (flat_map told (range_with_len a k))
ranged {X = X} time told each a zero = All-nil (λ (x : X). IsWithin a 0 (time x))
ranged {X = X} time told each a (suc k) =
    All-append (λ (x : X). IsWithin a (suc k) (time x)) (told a) (flat_map told (range_with_len (a + 1) k))
    (All-weaker (λ (x : X). time x ≡ a) (λ (x : X). IsWithin a (suc k) (time x)) (λ x is. (omega (arith, is), omega (arith, is))) (told a) (each a))
    (All-weaker (λ (x : X). IsWithin (a + 1) k (time x)) (λ (x : X). IsWithin a (suc k) (time x)) (λ x is. (omega (arith, is.0), omega (arith, is.1))) (flat_map told (range_with_len (a + 1) k)) (ranged time told each (a + 1) k))

found_then : (n : Circuit) (t : ℕ) (place : Place) → All (λ (f : Finding). f.time ≡ t) (found_at n t place)
found_then n t place = All-map (λ (f : Finding). f.time ≡ t) (λ (code : FindingCode). record { time = t; place = place; code = code }) (filter (is_found n place t) by_number) (λ k d within. refl)

pub findings_within : (n : Circuit) → All (λ (f : Finding). IsWithin 1 (n.horizon - 1) f.time) (findings n)
unfolding findings
findings_within n = ranged (λ (f : Finding). f.time) (λ t. flat_map (found_at n t) (places n)) (λ t. all_flat (λ (f : Finding). f.time ≡ t) (found_at n t) (places n) (found_then n t)) 1 (n.horizon - 1)

late_one : (n : Circuit) (t k : ℕ) (rest : List LateData) → All (λ (l : LateData). l.time ≡ t) rest → All (λ (l : LateData). l.time ≡ t) (cons_option (late_at n t k) rest)
late_one n t k rest all = by (bundle_at n k)
  where
    units : (o : Option ℕ) → All (λ (l : LateData). l.time ≡ t) (cons_option (option_map (late_by k t) o) rest)
    units None = all
    units (Some u) = All-cons (λ (l : LateData). l.time ≡ t) (late_by k t u) rest refl all

    by : (slot : Option BundleRecord) → All (λ (l : LateData). l.time ≡ t) (cons_option (late_in n t k slot) rest)
    by None = all
    by (Some b) = units (late_units n b t)

late_then : (n : Circuit) (t : ℕ) (ks : List ℕ) → All (λ (l : LateData). l.time ≡ t) (filter_map (late_at n t) ks)
late_then n t [] = All-nil (λ (l : LateData). l.time ≡ t)
late_then n t (k ∷ ks) = late_one n t k (filter_map (late_at n t) ks) (late_then n t ks)

pub late_within : (n : Circuit) → All (λ (l : LateData). IsWithin 1 (n.horizon - 1) l.time) (all_late n)
late_within n = ranged (λ (l : LateData). l.time) (λ t. filter_map (late_at n t) (range_with_len 0 (length n.bundles))) (λ t. late_then n t (range_with_len 0 (length n.bundles))) 1 (n.horizon - 1)

abbrev Within : Circuit → Problem → Type 0
Within n p = IsWithin 1 (n.horizon - 1) (time_of p)

problems_within : (n : Circuit) (s : Selected) → All (Within n) (problems n s)
problems_within n s =
    All-append (Within n) (map Found (filter (keeps_finding n s) (findings n))) (map Late (filter (keeps_late n s) (all_late n)))
    (All-map (Within n) Found (filter (keeps_finding n s) (findings n)) (All-filter (keeps_finding n s) (λ (f : Finding). IsWithin 1 (n.horizon - 1) f.time) (findings n) (findings_within n)))
    (All-map (Within n) Late (filter (keeps_late n s) (all_late n)) (All-filter (keeps_late n s) (λ (l : LateData). IsWithin 1 (n.horizon - 1) l.time) (all_late n) (late_within n)))

all_firsts : (P : Problem → Type 0) (xs : List Problem) → All P xs → All P (firsts is_alike xs)
all_firsts P [] all = All-nil P
all_firsts P (x ∷ others) all =
    All-cons P x (filter (λ y. not (is_alike x y)) (firsts is_alike others)) (All-head P x others all)
    (All-filter (λ y. not (is_alike x y)) P (firsts is_alike others) (all_firsts P others (All-tail P x others all)))

-- ---- in the order of the first ones

abbrev pub first_time : Group → ℕ
first_time g = time_of g.first

groups_within : (n : Circuit) (s : Selected) → All (λ (g : Group). IsWithin 1 (n.horizon - 1) (first_time g)) (groups (problems n s))
groups_within n s =
    All-map (λ (g : Group). IsWithin 1 (n.horizon - 1) (first_time g)) (group_of (problems n s)) (firsts is_alike (problems n s)) (all_firsts (Within n) (problems n s) (problems_within n s))

none_outside : (m t : ℕ) (gs : List Group) → nat_le 1 t && nat_lt t (1 + m) ≡ false → All (λ (g : Group). IsWithin 1 m (first_time g)) gs → filter (is_at first_time t) gs ≡ []
none_outside m t [] out all = refl
none_outside m t (g ∷ gs) out all =
    let here : IsWithin 1 m (first_time g) = All-head (λ (h : Group). IsWithin 1 m (first_time h)) g gs all in
    let other : (first_time g == t) ≡ false = grind (arith, nat_tests, out, here.0, here.1) in
    ap (λ (b : Bool). cond b (g ∷ filter (is_at first_time t) gs) (filter (is_at first_time t) gs)) other
    ∙ none_outside m t gs out (All-tail (λ (h : Group). IsWithin 1 m (first_time h)) g gs all)

-- groups after a stable sort by the times of their first ones
pub sorted_groups : (n : Circuit) (s : Selected) (xs ys : List Group) → xs ≡ groups (problems n s) → IsNonDecreasingBy first_time ys → IsStableByKey first_time nat_cmp xs ys → ys ≡ by_first n.horizon (groups (problems n s))
sorted_groups n s xs ys are rises stable =
    let m = n.horizon - 1 in
    let gs = groups (problems n s) in
    by_times first_time (λ t. filter (is_at first_time t) gs) m ys rises (λ t. at t ∙ by t (nat_le 1 t && nat_lt t (1 + m)) refl)
  where
    group : ℕ → Group
    group t = record { first = Late (record { time = t; bundle = record { 0 = 0 }; units = 0 }); count = 0; last = 0; worst = 0 }

    at : (t : ℕ) → filter (is_at first_time t) ys ≡ filter (is_at first_time t) (groups (problems n s))
    at t = same_at first_time xs ys stable (group t) ∙ ap (filter (is_at first_time t)) are

    by : (t : ℕ) (b : Bool) → nat_le 1 t && nat_lt t (1 + (n.horizon - 1)) ≡ b → filter (is_at first_time t) (groups (problems n s)) ≡ cond b (filter (is_at first_time t) (groups (problems n s))) []
    by t true is = refl
    by t false is = none_outside (n.horizon - 1) t (groups (problems n s)) is (groups_within n s)
