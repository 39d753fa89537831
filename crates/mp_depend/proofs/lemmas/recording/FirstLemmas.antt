-- The work spans of touched modules before time 0.
use Rattle.std.proofs.Common.{◌≡◌, ◌≢◌, ℕ, ◌+◌, ◌<◌, ◌≤◌, Bool, true, false, List, [], ◌∷◌, ◌++◌, Option, Some, None, IsSome, length, slice_set, refl, ap, sym, subst, ◌∙◌, arith, inl, inr}
use Rattle.std.specs.List.{Contains}
use Rattle.std.proofs.Math.ListN.{length-set}
use Rattle.std.proofs.lemmas.Bool.{cases_eq}
use Rattle.std.proofs.lemmas.List.{get_or_push, get_or_append_left, get_or-set_same, get_or-set_other, length_push}
use Rattle.std.proofs.lemmas.List.Elements.{Contains-append_left, Contains-push}
use Rattle.mp_records.specs.declared.ids.ModuleId.{ModuleId}
use Rattle.mp_netlist.specs.Circuit.{Circuit, IsCircuit, module_at}
use Rattle.mp_netlist.specs.Delays.{least_delay}
use Rattle.mp_netlist.proofs.DelayLemmas.{delays_are_least}
use Rattle.mp_netlist.proofs.LimitLemmas.{units_positive}
use Rattle.mp_model.proofs.SlotLemmas.{some_within}
use Rattle.mp_depend.specs.declared.work.work_span.WorkSpan.{WorkSpan}
use Rattle.mp_depend.specs.work.Merges.{end_of_window}
use Rattle.mp_depend.specs.work.WorkSpans.{no_work_span, work_span_at, IsPart, IsIn, AreWorkSpansTo}
use Rattle.mp_depend.specs.work.Work.{window_end}
use Rattle.mp_depend.proofs.lemmas.work.WindowLemmas.{window_within}
use Rattle.mp_depend.specs.recording.Live.{place_at, AreOpen, IsListed}

-- the module of a work span stands, is live, and has it as its own
pub record IsHeld (new : Circuit) (live : ℕ → Bool) (places : List (Option ℕ)) (s : WorkSpan) (k : ℕ) : Type 0 where
  pub stands : IsSome (module_at new s.«module».0)
  pub on : live s.«module».0 ≡ true
  pub own : place_at places s.«module».0 ≡ Some k

-- the work span at a place is the module's
pub record IsAtPlace (places : List (Option ℕ)) (work_spans : List WorkSpan) (m k : ℕ) : Type 0 where
  pub within : k < length work_spans
  pub own : (work_span_at work_spans k).«module».0 ≡ m
  pub work_span : place_at places m ≡ Some k

-- a work span from time 0 on
pub record IsFirstWorkSpan (end horizon count : ℕ) (s : WorkSpan) : Type 0 where
  pub from : s.from ≡ 0
  pub first : s.first_end ≡ end
  pub last : s.last_end ≡ horizon
  pub below : s.«module».0 < count

-- the work spans of the first modules
pub record AreFirst (new : Circuit) (end horizon count : ℕ) (live : ℕ → Bool) (places : List (Option ℕ)) (work_spans : List WorkSpan) : Type 0 where
  pub size : length places ≡ length new.modules
  pub each : (k : ℕ) → k < length work_spans → IsFirstWorkSpan end horizon count (work_span_at work_spans k)
  pub held : (k : ℕ) → k < length work_spans → IsHeld new live places (work_span_at work_spans k) k
  pub opened : (m : ℕ) → m < count → IsSome (module_at new m) → live m ≡ true → (k : ℕ) × IsAtPlace places work_spans m k
  pub closed : (m : ℕ) → live m ≡ false → place_at places m ≡ None

pub first_none : (new : Circuit) (end horizon : ℕ) (live : ℕ → Bool) (places : List (Option ℕ)) → length places ≡ length new.modules → ((m : ℕ) → place_at places m ≡ None) → AreFirst new end horizon 0 live places []
first_none new end horizon live places size none = record {
  size = size;
  each = λ k low. absurd (let no : ⊥ = omega (arith, low) in no);
  held = λ k low. absurd (let no : ⊥ = omega (arith, low) in no);
  opened = λ m low. absurd (let no : ⊥ = omega (arith, low) in no);
  closed = λ m quiet. none m;
}

first_later : (end horizon count : ℕ) (s : WorkSpan) → IsFirstWorkSpan end horizon count s → IsFirstWorkSpan end horizon (count + 1) s
first_later end horizon count s is = record { from = is.from; first = is.first; last = is.last; below = let low = is.below in omega (arith, low) }

-- a module that isn't live has none
pub first_skipped : (new : Circuit) (end horizon i : ℕ) (live : ℕ → Bool) (places : List (Option ℕ)) (work_spans : List WorkSpan) → (IsSome (module_at new i) → live i ≡ true → ⊥)
    → AreFirst new end horizon i live places work_spans → AreFirst new end horizon (i + 1) live places work_spans
first_skipped new end horizon i live places work_spans not are = record {
  size = are.size;
  each = λ k low. first_later end horizon i (work_span_at work_spans k) (are.each k low);
  held = are.held;
  opened = λ m low stands on. elim (cases_eq m i) as (λ _. (k : ℕ) × IsAtPlace places work_spans m k) [
    | inl same ↦ absurd (not (subst (λ j. IsSome (module_at new j)) same stands) (ap live (sym same) ∙ on))
    | inr other ↦ are.opened m (omega (arith, low, other)) stands on
  ];
  closed = are.closed;
}

-- the work span of a live module is opened
module _ (new : Circuit) (end horizon i : ℕ) (live : ℕ → Bool) (places : List (Option ℕ)) (work_spans : List WorkSpan) (s : WorkSpan) (are : AreFirst new end horizon i live places work_spans)
    (here : s.«module».0 ≡ i) (stands : IsSome (module_at new i)) (on : live i ≡ true) (first : s.from ≡ 0) (short : s.first_end ≡ end) (long : s.last_end ≡ horizon) where
  inside : i < length places
  inside = let low = some_within new.modules i stands in let size = are.size in omega (arith, low, size)

  at_new : (k : ℕ) → k ≡ length work_spans → work_span_at (work_spans ++ s ∷ []) k ≡ s
  at_new k same = get_or_push work_spans s no_work_span k (sym same)

  at_old : (k : ℕ) → k < length work_spans → work_span_at (work_spans ++ s ∷ []) k ≡ work_span_at work_spans k
  at_old k low = get_or_append_left work_spans (s ∷ []) no_work_span k low

  place_here : place_at (slice_set places i (Some (length work_spans))) i ≡ Some (length work_spans)
  place_here = get_or-set_same places i (Some (length work_spans)) None inside

  place_there : (m : ℕ) → m ≢ i → place_at (slice_set places i (Some (length work_spans))) m ≡ place_at places m
  place_there m other = get_or-set_other places i m (Some (length work_spans)) None other

  each_place : (P : ℕ → WorkSpan → Type 0) → ((k : ℕ) → k < length work_spans → P k (work_span_at work_spans k)) → P (length work_spans) s → (k : ℕ) → k < length (work_spans ++ s ∷ []) → P k (work_span_at (work_spans ++ s ∷ []) k)
  each_place P before last k low = elim (cases_eq k (length work_spans)) as (λ _. P k (work_span_at (work_spans ++ s ∷ []) k)) [
    | inl same ↦ subst (P k) (sym (at_new k same)) (subst (λ j. P j s) (sym same) last)
    | inr other ↦
        let size = length_push work_spans s in
        let within : k < length work_spans = omega (arith, low, other, size) in
        subst (P k) (sym (at_old k within)) (before k within)
  ]

  held_on : (k : ℕ) → k < length work_spans → IsHeld new live (slice_set places i (Some (length work_spans))) (work_span_at work_spans k) k
  held_on k low =
      let is = are.held k low in
      let m = (work_span_at work_spans k).«module».0 in
      let other : m ≢ i = λ same. let less = (are.each k low).below in let no : ⊥ = omega (arith, same, less) in no in
      record { stands = is.stands; on = is.on; own = place_there m other ∙ is.own }

  held_now : IsHeld new live (slice_set places i (Some (length work_spans))) s (length work_spans)
  held_now = record {
    stands = subst (λ j. IsSome (module_at new j)) (sym here) stands;
    on = ap live here ∙ on;
    own = ap (place_at (slice_set places i (Some (length work_spans)))) here ∙ place_here;
  }

  opened_now : IsAtPlace (slice_set places i (Some (length work_spans))) (work_spans ++ s ∷ []) i (length work_spans)
  opened_now = record {
    within = let size = length_push work_spans s in omega (arith, size);
    own = ap (λ (t : WorkSpan). t.«module».0) (at_new (length work_spans) refl) ∙ here;
    work_span = place_here;
  }

  opened_on : (m k : ℕ) → m ≢ i → IsAtPlace places work_spans m k → IsAtPlace (slice_set places i (Some (length work_spans))) (work_spans ++ s ∷ []) m k
  opened_on m k other is = record {
    within = let size = length_push work_spans s in let low = is.within in omega (arith, size, low);
    own = ap (λ (t : WorkSpan). t.«module».0) (at_old k is.within) ∙ is.own;
    work_span = place_there m other ∙ is.work_span;
  }

  pub first_opened : AreFirst new end horizon (i + 1) live (slice_set places i (Some (length work_spans))) (work_spans ++ s ∷ [])
  first_opened = record {
    size = length-set places i (Some (length work_spans)) ∙ are.size;
    each = each_place (λ k t. IsFirstWorkSpan end horizon (i + 1) t) (λ k low. first_later end horizon i (work_span_at work_spans k) (are.each k low))
        (record { from = first; first = short; last = long; below = omega (arith, here) });
    held = each_place (λ k t. IsHeld new live (slice_set places i (Some (length work_spans))) t k) held_on held_now;
    opened = λ m low is lives. elim (cases_eq m i) as (λ _. (k : ℕ) × IsAtPlace (slice_set places i (Some (length work_spans))) (work_spans ++ s ∷ []) m k) [
      | inl same ↦ (length work_spans, subst (λ j. IsAtPlace (slice_set places i (Some (length work_spans))) (work_spans ++ s ∷ []) j (length work_spans)) (sym same) opened_now)
      | inr other ↦
          let found = are.opened m (omega (arith, low, other)) is lives in
          (found.0, opened_on m found.0 other found.1)
    ];
    closed = λ m quiet. elim (cases_eq m i) as (λ _. place_at (slice_set places i (Some (length work_spans))) m ≡ None) [
      | inl same ↦
          let no : true ≡ false = sym on ∙ ap live (sym same) ∙ quiet in
          cc
      | inr other ↦ place_there m other ∙ are.closed m quiet
    ];
  }

-- the first window ends where windows of the least delay up to the horizon do
pub first_end : (n : Circuit) (least horizon end : ℕ) → end ≡ end_of_window least horizon 0 → least ≡ least_delay n → horizon ≡ n.horizon → end ≡ window_end n 0
first_end n least horizon end is one other = is ∙ ap (λ l. end_of_window l horizon 0) one ∙ ap (λ h. end_of_window (least_delay n) h 0) other

-- so all live modules have work spans
module _ (new : Circuit) (ok : IsCircuit new) (end horizon count : ℕ) (live : ℕ → Bool) (places : List (Option ℕ)) (work_spans : List WorkSpan) (are : AreFirst new end horizon count live places work_spans)
    (all : length new.modules ≤ count) (short : end ≡ window_end new 0) (long : horizon ≡ new.horizon) where
  some_time : 0 < window_end new 0
  some_time =
      let positive = (delays_are_least new ok).positive in
      let low = ok.horizon_low in
      let units = units_positive new.horizon in
      omega (arith, positive, low, units)

  none_ends : (m from to k : ℕ) → to ≤ 0 → IsIn new work_spans m from to k → ⊥
  none_ends m from to k le is = by is.at
    where
      by : IsPart new (work_span_at work_spans k) from to → ⊥
      by (inl whole) = let e = whole.1 in let f = (are.each k is.within).first in omega (arith, e, f, short, le, some_time)
      by (inr later) = let within = window_within new ok from to later.0 in omega (arith, within.1, le)

  pub first_work_spans : (old : Circuit) → AreWorkSpansTo old new 0 work_spans
  first_work_spans old = record {
    known = λ m from to le entry. absurd (let within = window_within new ok entry.start to entry.window in let no : ⊥ = omega (arith, within.1, le) in no);
    only = λ m from to k le is. absurd (none_ends m from to k le is);
    once = λ m from to k j le is other. absurd (none_ends m from to k le is);
    begun = λ k low. let is = are.each k low in inr (refl, is.from, is.first ∙ short);
    ends = λ k low. inl ((are.each k low).last ∙ long);
  }

  pub first_open : AreOpen new 0 live places work_spans
  first_open = record {
    count = are.size;
    opened = λ m stands on.
        let found = are.opened m (let within = some_within new.modules m stands in omega (arith, within, all)) stands on in
        (found.0, found.1.work_span, record { within = found.1.within; own = found.1.own; on = (are.each found.0 found.1.within).last ∙ long });
    closed = are.closed;
    over = λ k low later. let is = are.held k low in (is.on, is.own, is.stands);
  }

-- ---- the live ones of the first modules are listed

abbrev pub IsListedTo : Circuit → ℕ → (ℕ → Bool) → List ModuleId → Type 0
IsListedTo new count live list = (m : ℕ) → m < count → IsSome (module_at new m) → live m ≡ true → Contains list (record { 0 = m })

pub listed_one : (new : Circuit) (count : ℕ) (live : ℕ → Bool) (list : List ModuleId) (id : ModuleId) → id.0 ≡ count → IsListedTo new count live list → IsListedTo new (count + 1) live (list ++ id ∷ [])
listed_one new count live list id number are m low stands on = elim (cases_eq m id.0) as (λ _. Contains (list ++ id ∷ []) (record { 0 = m })) [
  | inl same ↦ subst (λ k. Contains (list ++ id ∷ []) (record { 0 = k })) (sym same) (Contains-push list id)
  | inr other ↦ Contains-append_left list (id ∷ []) (record { 0 = m }) (are m (omega (arith, low, number, other)) stands on)
]

pub listed_none_here : (new : Circuit) (count : ℕ) (live : ℕ → Bool) (list : List ModuleId) → (IsSome (module_at new count) → live count ≡ true → ⊥) → IsListedTo new count live list → IsListedTo new (count + 1) live list
listed_none_here new count live list none are m low stands on = elim (cases_eq m count) as (λ _. Contains list (record { 0 = m })) [
  | inl same ↦ absurd (none (subst (λ k. IsSome (module_at new k)) same stands) (ap live (sym same) ∙ on))
  | inr other ↦ are m (omega (arith, low, other)) stands on
]

pub listed_all : (new : Circuit) (count : ℕ) (live : ℕ → Bool) (list : List ModuleId) → length new.modules ≤ count → IsListedTo new count live list → IsListed new live list
listed_all new count live list all are m stands on = are m (let within = some_within new.modules m stands in omega (arith, within, all)) stands on
