-- What holds of those who wait, and of margins.
use Rattle.std.proofs.Common.{◌≡◌, ◌≢◌, ℕ, ◌+◌, ◌-◌, ◌<◌, ◌≤◌, Bool, true, false, not, cond, ◌==◌, List, [], ◌∷◌, slice_index, min, fold, Contains, Option, Some, None, option_map, zero, suc, refl, sym, ap, subst, ◌∙◌, inl, inr, ⊎_elim, true≢false, arith}
use Rattle.std.specs.List.{cons_option, filter, filter_map, range_with_len}
use Rattle.std.proofs.lemmas.Bool.{cases_lt, cases_eq, eqb-true}
use Rattle.mp_modules.specs.declared.finding_code.FindingCode.TheVariants.{Setup}
use Rattle.mp_modules.specs.declared.kind.Kind.{Kind}
use Rattle.mp_modules.specs.declared.kind.Kind.TheVariants as kinds
use Rattle.mp_modules.specs.declared.memory.Memory.{Memory}
use Rattle.mp_modules.specs.declared.rendezvous.Rendezvous.{Rendezvous}
use Rattle.mp_modules.specs.CElement.{bubbled, joined}
use Rattle.mp_modules.specs.Histories.{has_event}
use Rattle.mp_modules.specs.Memories.{output_of}
use Rattle.mp_modules.specs.Tables.{rendezvous}
use Rattle.mp_modules.specs.storage.AnyModules.{any_part_of, step}
use Rattle.mp_records.specs.declared.module_record.ModuleRecord.{ModuleRecord}
use Rattle.mp_records.specs.declared.bundle_record.BundleRecord.{BundleRecord}
use Rattle.mp_netlist.specs.Circuit.{Circuit, IsCircuit, module_at, module_width, bundle_at}
use Rattle.mp_model.specs.Levels.{inputs_by}
use Rattle.mp_model.specs.Waves.{level, state}
use Rattle.mp_model.specs.Findings.{bundle_place, findings}
use Rattle.mp_model.specs.FindingLaws.{Changes, IsRequestedSoon}
use Rattle.mp_model.proofs.BehaviourLemmas.{satisfies}
use Rattle.mp_model.proofs.FindingLemmas.{finds_by_rule}
use Rattle.mp_model.proofs.MemberLemmas.{contains_here, contains_there, contains_cases, contains_filter, filter_contains, contains_range, range_contains}
use Rattle.mp_questions.specs.timing.Events.{event_times, last_event}
use Rattle.mp_questions.specs.timing.Extremes.{extremes}
use Rattle.mp_questions.specs.timing.Measures.{stood_for}
use Rattle.mp_questions.specs.timing.Waits.{given}
use Rattle.mp_questions.specs.timing.TimingLaws.{KeepsOutput, TellsShortSetups, StaysFrom, first_level, second_level, least_setup}
use Rattle.mp_questions.proofs.lemmas.causes.EventLemmas.{event_later, last_event_is}
use Rattle.mp_questions.proofs.lemmas.timing.EventLemmas.{same_true}

-- ---- a C that waits

c_step : (params : List ℕ) (width : ℕ) (s : Memory) (x : List ℕ) → output_of (step (any_part_of kinds.C params width) s x) 0 ≡ joined (rendezvous params) (output_of s 0) x
unfolding any_part_of step
c_step params width s x = refl

either : (test : Bool) (a former : ℕ) → a ≡ former → cond test a former ≡ former
either true a former same = same
either false a former same = refl

joined_first : (c : Rendezvous) (former : ℕ) (x : List ℕ) → bubbled c.bubble_a (slice_index x 0) ≡ former → joined c former x ≡ former
joined_first c former x same = either (bubbled c.bubble_a (slice_index x 0) == bubbled c.bubble_b (slice_index x 1)) (bubbled c.bubble_a (slice_index x 0)) former same

by_second : (a b former : ℕ) (test : Bool) → (a == b) ≡ test → b ≡ former → cond test a former ≡ former
by_second a b former true is same = eqb-true a b is ∙ same
by_second a b former false is same = refl

joined_second : (c : Rendezvous) (former : ℕ) (x : List ℕ) → bubbled c.bubble_b (slice_index x 1) ≡ former → joined c former x ≡ former
joined_second c former x same =
    by_second (bubbled c.bubble_a (slice_index x 0)) (bubbled c.bubble_b (slice_index x 1)) former (bubbled c.bubble_a (slice_index x 0) == bubbled c.bubble_b (slice_index x 1)) refl same

module _ (n : Circuit) (m : ℕ) (r : ModuleRecord) (ok : IsCircuit n) (at : module_at n m ≡ Some r) (kind : r.kind ≡ kinds.C) where
  next_output : (u : ℕ) → given n m 0 (u + 1) ≡ joined (rendezvous r.params) (given n m 0 u) (inputs_by n (level n) r (u + 1))
  next_output u =
      ap (λ (s : Memory). output_of s 0) ((satisfies n ok).stepped m u r at)
      ∙ ap (λ (k : Kind). output_of (step (any_part_of k r.params (module_width n r)) (state n m u) (inputs_by n (level n) r (u + 1))) 0) kind
      ∙ c_step r.params (module_width n r) (state n m u) (inputs_by n (level n) r (u + 1))

  -- an input that agrees with the output, and stays, keeps it
  kept_so_far : (mine : ℕ → ℕ) (t k : ℕ) → ((u : ℕ) → mine (u + 1) ≡ given n m 0 u → given n m 0 (u + 1) ≡ given n m 0 u) → mine t ≡ given n m 0 t
      → ((u : ℕ) → t ≤ u → u ≤ t + k → mine u ≡ mine t) → given n m 0 (t + k) ≡ given n m 0 t
  kept_so_far mine t zero joins agrees stays = let same : t + 0 ≡ t = omega arith in ap (given n m 0) same
  kept_so_far mine t (suc k) joins agrees stays =
      let same : t + suc k ≡ t + k + 1 = omega arith in
      let before = kept_so_far mine t k joins agrees (λ u low high. stays u low (omega (arith, high))) in
      ap (given n m 0) same ∙ joins (t + k) (stays (t + k + 1) (omega arith) (omega arith) ∙ agrees ∙ sym before) ∙ before

  keeps : (mine : ℕ → ℕ) (t end : ℕ) → ((u : ℕ) → mine (u + 1) ≡ given n m 0 u → given n m 0 (u + 1) ≡ given n m 0 u) → mine t ≡ given n m 0 t → StaysFrom mine t end → StaysFrom (given n m 0) t end
  keeps mine t end joins agrees stays u low high =
      let same : u ≡ t + (u - t) = omega (arith, low) in
      ap (given n m 0) same ∙ kept_so_far mine t (u - t) joins agrees (λ v from upto. stays v from (omega (arith, upto, low, high)))

pub keeps_output : KeepsOutput
keeps_output = record {
  first = λ n m r t end ok at kind missing stays.
      keeps n m r ok at kind (first_level n r) t end
      (λ u same. next_output n m r ok at kind u ∙ joined_first (rendezvous r.params) (given n m 0 u) (inputs_by n (level n) r (u + 1)) same) missing.agrees stays;
  second = λ n m r t end ok at kind missing stays.
      keeps n m r ok at kind (second_level n r) t end
      (λ u same. next_output n m r ok at kind u ∙ joined_second (rendezvous r.params) (given n m 0 u) (inputs_by n (level n) r (u + 1)) same) missing.agrees stays;
}

-- ---- the least of some numbers

least_among : (d : ℕ) (ds : List ℕ) → Contains (d ∷ ds) (fold min d ds)
least_among d [] = contains_here d []
least_among d (e ∷ es) =
    ⊎_elim
    (λ same.
    elim (cases_lt e d) as (λ _. Contains (d ∷ (e ∷ es)) (fold min (min d e) es)) [
      | inl less ↦ let is : e ≡ fold min (min d e) es = omega (arith, same, less) in subst (Contains (d ∷ (e ∷ es))) is (contains_there e d (e ∷ es) (contains_here e es))
      | inr le ↦ let is : d ≡ fold min (min d e) es = omega (arith, same, le) in subst (Contains (d ∷ (e ∷ es))) is (contains_here d (e ∷ es))
    ])
    (λ later. contains_there (fold min (min d e) es) d (e ∷ es) (contains_there (fold min (min d e) es) e es later))
    (contains_cases (fold min (min d e) es) (min d e) es (least_among (min d e) es))

least_below : (d : ℕ) (ds : List ℕ) → fold min d ds ≤ d
least_below d [] = omega arith
least_below d (e ∷ es) = omega (arith, least_below (min d e) es)

least_low : (d : ℕ) (ds : List ℕ) (y : ℕ) → Contains (d ∷ ds) y → fold min d ds ≤ y
least_low d [] y has = ⊎_elim (λ same. omega (arith, same)) (λ later. absurd (omega (arith, later.1))) (contains_cases y d [] has)
least_low d (e ∷ es) y has =
    ⊎_elim (λ same. omega (arith, same, least_below (min d e) es))
    (λ later. ⊎_elim (λ same. omega (arith, same, least_below (min d e) es)) (λ behind. least_low (min d e) es y (contains_there y (min d e) es behind)) (contains_cases y e es later))
    (contains_cases y d (e ∷ es) has)

-- ---- what a partial function gives

contains_filter_map : (g : ℕ → Option ℕ) (x y : ℕ) (xs : List ℕ) → Contains xs x → g x ≡ Some y → Contains (filter_map g xs) y
contains_filter_map g x y [] has is = absurd (omega (arith, has.1))
contains_filter_map g x y (z ∷ zs) has is = ⊎_elim first (λ later. behind (g z) (contains_filter_map g x y zs later is)) (contains_cases x z zs has)
  where
    behind : (o : Option ℕ) → Contains (filter_map g zs) y → Contains (cons_option o (filter_map g zs)) y
    behind None has = has
    behind (Some v) has = contains_there y v (filter_map g zs) has

    first : z ≡ x → Contains (filter_map g (z ∷ zs)) y
    first same = let here : g z ≡ Some y = ap g same ∙ is in rw here (contains_here y (filter_map g zs))

pub filter_map_contains : {X Y : Type 0} (f : X → Option Y) (y : Y) (xs : List X) → Contains (filter_map f xs) y → (x : X) × Contains xs x × (f x ≡ Some y)
filter_map_contains f y [] has = absurd (omega (arith, has.1))
filter_map_contains {X} {Y} f y (z ∷ zs) has =
    by (λ there. let found = filter_map_contains f y zs there in (found.0, contains_there found.0 z zs found.1, found.2)) (f z) refl has
  where
    by : (Contains (filter_map f zs) y → (x : X) × Contains (z ∷ zs) x × (f x ≡ Some y)) → (o : Option Y) → f z ≡ o → Contains (cons_option o (filter_map f zs)) y
        → (x : X) × Contains (z ∷ zs) x × (f x ≡ Some y)
    by later None is there = later there
    by later (Some v) is there = ⊎_elim (λ same. (z, contains_here z zs, is ∙ ap Some same)) later (contains_cases y v (filter_map f zs) there)

filter_from : (p : ℕ → Bool) (x : ℕ) (xs : List ℕ) → Contains (filter p xs) x → Contains xs x
filter_from p x [] has = has
filter_from p x (y ∷ ys) has = by (filter_from p x ys) (p y) has
  where
    by : (Contains (filter p ys) x → Contains ys x) → (b : Bool) → Contains (cond b (y ∷ filter p ys) (filter p ys)) x → Contains (y ∷ ys) x
    by from true there = ⊎_elim (λ same. subst (Contains (y ∷ ys)) same (contains_here y ys)) (λ later. contains_there x y ys (from later)) (contains_cases x y (filter p ys) there)
    by from false there = contains_there x y ys (from there)

-- ---- the last event

-- where there is an event up to a time, the last one isn't before it
last_since : (f : ℕ → ℕ) (t q : ℕ) → has_event f t ≡ true → t ≤ q → (u : ℕ) × (last_event f q ≡ Some u) × (t ≤ u) × (u ≤ q)
last_since f t zero event le = let same : t ≡ 0 = omega (arith, le) in absurd (true≢false (sym event ∙ ap (has_event f) same))
last_since f t (suc q) event le = by (last_since f t q event) (has_event f (suc q)) refl
  where
    by : (t ≤ q → (u : ℕ) × (last_event f q ≡ Some u) × (t ≤ u) × (u ≤ q)) → (b : Bool) → has_event f (suc q) ≡ b → (u : ℕ) × (cond b (Some (suc q)) (last_event f q) ≡ Some u) × (t ≤ u) × (u ≤ suc q)
    by earlier true is = (suc q, refl, le, omega arith)
    by earlier false is =
        elim (cases_eq t (suc q)) as (λ _. (u : ℕ) × (last_event f q ≡ Some u) × (t ≤ u) × (u ≤ suc q)) [
          | inl same ↦ absurd (true≢false (sym event ∙ ap (has_event f) same ∙ is))
          | inr other ↦ let found = earlier (omega (arith, le, other)) in (found.0, found.1, found.2, omega (arith, found.3))
        ]

-- an event is a difference
differs : (f : ℕ → ℕ) (t : ℕ) → has_event f t ≡ true → f (t - 1) ≢ f t
differs f zero event same = true≢false (sym event)
differs f (suc t) event same =
    let back : suc t - 1 ≡ t = omega arith in
    let test = same_true (f t) (f (suc t)) (ap f (sym back) ∙ same) in
    true≢false (sym event ∙ ap not test)

is_event : (f : ℕ → ℕ) (t : ℕ) → 1 ≤ t → f (t - 1) ≢ f t → has_event f t ≡ true
is_event f zero some other = absurd (omega (arith, some))
is_event f (suc t) some other = by (f t == f (suc t)) refl
  where
    by : (b : Bool) → (f t == f (suc t)) ≡ b → not b ≡ true
    by true is = let back : suc t - 1 ≡ t = omega arith in absurd (other (ap f back ∙ eqb-true (f t) (f (suc t)) is))
    by false is = refl

-- ---- margins

stood_from : (f : ℕ → ℕ) (q s : ℕ) → stood_for f q ≡ Some s → (u : ℕ) × (last_event f q ≡ Some u) × (q - u ≡ s)
stood_from f q s is = by (last_event f q) refl is
  where
    by : (o : Option ℕ) → last_event f q ≡ o → option_map (λ u. q - u) o ≡ Some s → (u : ℕ) × (last_event f q ≡ Some u) × (q - u ≡ s)
    by None at is = let none : ⊥ = cc in absurd none
    by (Some u) at is = let same : q - u ≡ s = cc in (u, at, same)

module _ (n : Circuit) (k : ℕ) (b : BundleRecord) (at : bundle_at n k ≡ Some b) where
  abbrev f : ℕ → ℕ
  f = level n b.payload.0

  abbrev g : ℕ → ℕ
  g = level n b.request.0

  abbrev times : List ℕ
  times = event_times g 0 n.horizon

  abbrev least_of : List ℕ → Option ℕ
  least_of numbers = option_map (λ e. e.least) (extremes numbers)

  reported : (q s : ℕ) → Contains times q → stood_for f q ≡ Some s → s ≤ b.setup → (t : ℕ) × Contains (findings n) (record { time = t; place = bundle_place k; code = Setup })
  reported q s has stood low =
      let from = stood_from f q s stood in
      let u = from.0 in
      let last = last_event_is f q u from.1 in
      let inside = range_contains 0 (n.horizon - 0) q (filter_from (has_event g) q (range_with_len 0 (n.horizon - 0)) has) in
      let request = filter_contains (has_event g) q (range_with_len 0 (n.horizon - 0)) has in
      let below : q < n.horizon = omega (arith, inside.1) in
      let upto = last.within in
      let units = from.2 in
      let soon : IsRequestedSoon n b u = record { at = q; since = upto; until = omega (arith, units, low, upto); within = below; event = differs g q request } in
      (u, (finds_by_rule n (record { time = u; place = bundle_place k; code = Setup })).1 (event_later f u last.event, omega (arith, upto, below), (b, at, (differs f u last.event, soon))))

  short_if : (numbers : List ℕ) (s : ℕ) → numbers ≡ filter_map (stood_for f) times → least_of numbers ≡ Some s → s ≤ b.setup
      → (t : ℕ) × Contains (findings n) (record { time = t; place = bundle_place k; code = Setup })
  short_if [] s is least low = let none : ⊥ = cc in absurd none
  short_if (d ∷ ds) s is least low =
      let same : fold min d ds ≡ s = cc in
      let has : Contains (filter_map (stood_for f) times) s = subst (λ l. Contains l s) is (subst (Contains (d ∷ ds)) same (least_among d ds)) in
      let found = filter_map_contains (stood_for f) s times has in
      reported found.0 s found.1 found.2 low

  least_is : (numbers : List ℕ) (y : ℕ) → Contains numbers y → y ≤ b.setup → (s : ℕ) × (least_of numbers ≡ Some s) × (s ≤ b.setup)
  least_is [] y has low = absurd (omega (arith, has.1))
  least_is (d ∷ ds) y has low = (fold min d ds, refl, omega (arith, least_low d ds y has, low))

  short_from : (t : ℕ) → 1 ≤ t → Changes n b.payload t → IsRequestedSoon n b t → (s : ℕ) × (least_setup n b ≡ Some s) × (s ≤ b.setup)
  short_from t some change soon =
      let q = soon.at in
      let since = soon.since in
      let until = soon.until in
      let within = soon.within in
      let event = is_event f t some change in
      let request = is_event g q (omega (arith, some, since)) soon.event in
      let has = contains_filter (has_event g) q (range_with_len 0 (n.horizon - 0)) (contains_range 0 (n.horizon - 0) q (omega arith) (omega (arith, within))) request in
      let last = last_since f t q event since in
      let u = last.0 in
      let stood : stood_for f q ≡ Some (q - u) = ap (option_map (λ v. q - v)) last.1 in
      least_is (filter_map (stood_for f) times) (q - u) (contains_filter_map (stood_for f) q (q - u) times has stood) (omega (arith, until, since, last.2, last.3))

same_bundle : (n : Circuit) (k : ℕ) (b r : BundleRecord) → bundle_at n k ≡ Some b → bundle_at n k ≡ Some r → r ≡ b
same_bundle n k b r one other = cc

pub tells_short_setups : TellsShortSetups
tells_short_setups n k b at = (
  λ short. short_if n k b at (filter_map (stood_for (level n b.payload.0)) (event_times (level n b.request.0) 0 n.horizon)) short.0 refl short.1 short.2,
  λ found.
      let rule = (finds_by_rule n (record { time = found.0; place = bundle_place k; code = Setup })).0 found.1 in
      let r = rule.2.0 in
      let same = same_bundle n k b r at rule.2.1 in
      short_from n k b at found.0 rule.0 (subst (λ (x : BundleRecord). Changes n x.payload found.0) same rule.2.2.0) (subst (λ (x : BundleRecord). IsRequestedSoon n x found.0) same rule.2.2.1),
)
