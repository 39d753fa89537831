-- A module is live no longer from a border on.
use Rattle.std.proofs.Common.{◌≡◌, ◌≢◌, ℕ, ◌+◌, ◌<◌, ◌≤◌, Bool, true, false, cond, if◌then◌else◌, nat_lt, List, [], ◌∷◌, Option, Some, None, IsSome, length, slice_set, refl, ap, sym, subst, ◌∙◌, arith, inl, inr}
use Rattle.std.specs.List.{Contains, filter}
use Rattle.std.proofs.Math.ListN.{length-set}
use Rattle.std.proofs.lemmas.Bool.{cases_eq, lt-ltb, le-ltb}
use Rattle.std.proofs.lemmas.List.{get_or-set_same, get_or-set_other}
use Rattle.std.proofs.lemmas.List.Elements.{Contains-append_right}
use Rattle.mp_netlist.specs.Slots.{slot_at}
use Rattle.mp_netlist.specs.Circuit.{Circuit, module_at}
use Rattle.mp_partition.specs.declared.runs.checkpoint.Checkpoint.{Checkpoint}
use Rattle.mp_partition.specs.runs.Outcomes.{Outcome}
use Rattle.mp_partition.proofs.lemmas.runs.MarkLemmas.{none_in, contains_cons}
use Rattle.mp_depend.specs.declared.work.work_span.WorkSpan.{WorkSpan}
use Rattle.mp_depend.specs.work.WorkSpans.{no_work_span, work_span_at, IsPart, IsIn, HasBegun, EndsWithWindow, AreWorkSpansTo}
use Rattle.mp_depend.specs.work.Work.{IsWindow}
use Rattle.mp_depend.specs.declared.recording.checkpoint_overlay.CheckpointOverlay.{CheckpointOverlay}
use Rattle.mp_depend.specs.declared.recording.checkpoint_overlay.CheckpointOverlay.TheVariants.{Old}
use Rattle.mp_depend.specs.recording.Keeping.{IsOverlayAt, AreOverlays}
use Rattle.mp_depend.specs.recording.Leaving.{ended, HasEnded, HasHandedBack}
use Rattle.mp_depend.specs.recording.Overlays.{state_in, overlay_state, overlay_at, IsInOrder}
use Rattle.mp_depend.specs.recording.Live.{place_at, IsOpenAt, AreOpen, LeavesAt}
use Rattle.mp_depend.proofs.lemmas.recording.KeepLemmas.{left_overlay}

-- ---- work spans

-- what is in a work span up to a time is so too where the work span ends then
part_on : (new : Circuit) (s : WorkSpan) (from to time : ℕ) → to ≤ time → IsPart new s from to → IsPart new (ended s time) from to
part_on new s from to time low (inl first) = inl first
part_on new s from to time low (inr other) = inr (other.0, other.1, low)

part_back : (new : Circuit) (s : WorkSpan) (from to time : ℕ) → time ≤ s.last_end → IsPart new (ended s time) from to → IsPart new s from to
part_back new s from to time low (inl first) = inl first
part_back new s from to time low (inr other) = inr (other.0, other.1, let end = other.2 in omega (arith, end, low))

module _ (old new : Circuit) (work_spans after : List WorkSpan) (place time : ℕ) (ends : HasEnded work_spans after place time) (low : time ≤ (work_span_at work_spans place).last_end) where
  in_after : (m from to k : ℕ) → to ≤ time → IsIn new work_spans m from to k → IsIn new after m from to k
  in_after m from to k up is = elim (cases_eq k place) as (λ _. IsIn new after m from to k) [
    | inl same ↦
        let here : work_span_at after k ≡ ended (work_span_at work_spans k) time = ap (work_span_at after) same ∙ ends.here ∙ ap (λ j. ended (work_span_at work_spans j) time) (sym same) in
        record {
          within = let size = ends.places in let within = is.within in omega (arith, size, within);
          part = ap (λ (s : WorkSpan). s.«module».0) here ∙ is.part;
          at = subst (λ s. IsPart new s from to) (sym here) (part_on new (work_span_at work_spans k) from to time up is.at);
        }
    | inr other ↦
        let here : work_span_at after k ≡ work_span_at work_spans k = ends.others k other in
        record {
          within = let size = ends.places in let within = is.within in omega (arith, size, within);
          part = ap (λ (s : WorkSpan). s.«module».0) here ∙ is.part;
          at = subst (λ s. IsPart new s from to) (sym here) is.at;
        }
  ]

  in_before : (m from to k : ℕ) → IsIn new after m from to k → IsIn new work_spans m from to k
  in_before m from to k is = elim (cases_eq k place) as (λ _. IsIn new work_spans m from to k) [
    | inl same ↦
        let here : work_span_at after k ≡ ended (work_span_at work_spans k) time = ap (work_span_at after) same ∙ ends.here ∙ ap (λ j. ended (work_span_at work_spans j) time) (sym same) in
        let under : time ≤ (work_span_at work_spans k).last_end = subst (λ j. time ≤ (work_span_at work_spans j).last_end) (sym same) low in
        record {
          within = let size = ends.places in let within = is.within in omega (arith, size, within);
          part = sym (ap (λ (s : WorkSpan). s.«module».0) here) ∙ is.part;
          at = part_back new (work_span_at work_spans k) from to time under (subst (λ s. IsPart new s from to) here is.at);
        }
    | inr other ↦
        let here : work_span_at after k ≡ work_span_at work_spans k = ends.others k other in
        record {
          within = let size = ends.places in let within = is.within in omega (arith, size, within);
          part = sym (ap (λ (s : WorkSpan). s.«module».0) here) ∙ is.part;
          at = subst (λ s. IsPart new s from to) here is.at;
        }
  ]

  pub ended_work : (start : ℕ) → IsWindow new start time → AreWorkSpansTo old new time work_spans → AreWorkSpansTo old new time after
  ended_work start window are = record {
    known = λ m from to up entry. let found = are.known m from to up entry in (found.0, in_after m from to found.0 up found.1);
    only = λ m from to k up is. are.only m from to k up (in_before m from to k is);
    once = λ m from to k j up one other. are.once m from to k j up (in_before m from to k one) (in_before m from to j other);
    begun = λ k within.
        let was = are.begun k (let size = ends.places in omega (arith, size, within)) in
        elim (cases_eq k place) as (λ _. HasBegun new time (work_span_at after k)) [
          | inl same ↦
              let here : work_span_at after k ≡ ended (work_span_at work_spans k) time = ap (work_span_at after) same ∙ ends.here ∙ ap (λ j. ended (work_span_at work_spans j) time) (sym same) in
              subst (HasBegun new time) (sym here) was
          | inr other ↦ subst (HasBegun new time) (sym (ends.others k other)) was
        ];
    ends = λ k within.
        let was = are.ends k (let size = ends.places in omega (arith, size, within)) in
        elim (cases_eq k place) as (λ _. EndsWithWindow new (work_span_at after k)) [
          | inl same ↦
              let here : work_span_at after k ≡ ended (work_span_at work_spans k) time = ap (work_span_at after) same ∙ ends.here ∙ ap (λ j. ended (work_span_at work_spans j) time) (sym same) in
              subst (EndsWithWindow new) (sym here) (inr (start, window))
          | inr other ↦ subst (EndsWithWindow new) (sym (ends.others k other)) was
        ];
  }

-- the work span at a place ends
pub ended_at : (work_spans : List WorkSpan) (place time : ℕ) (was : WorkSpan) → place < length work_spans → was ≡ work_span_at work_spans place → HasEnded work_spans (slice_set work_spans place (ended was time)) place time
ended_at work_spans place time was within at = record {
  places = length-set work_spans place (ended was time);
  here = get_or-set_same work_spans place (ended was time) no_work_span within ∙ ap (λ s. ended s time) at;
  others = λ k other. get_or-set_other work_spans place k (ended was time) no_work_span other;
}

-- the work span of a live module goes on
pub open_on : (new : Circuit) (time m place : ℕ) (live : ℕ → Bool) (places : List (Option ℕ)) (work_spans : List WorkSpan) → AreOpen new time live places work_spans → IsSome (module_at new m) → live m ≡ true
    → place_at places m ≡ Some place → IsOpenAt new work_spans m place
open_on new time m place live places work_spans are stands on is =
    let found = are.opened m stands on in
    let both : Some found.0 ≡ Some place = sym found.1 ∙ is in
    let e : found.0 ≡ place = cc in
    subst (IsOpenAt new work_spans m) e found.2

-- the work span of a module that is live no longer isn't open
module _ (new : Circuit) (time m place : ℕ) (live now : ℕ → Bool) (places : List (Option ℕ)) (work_spans after : List WorkSpan) (are : AreOpen new time live places work_spans)
    (leaves : LeavesAt new live now m time) (is : place_at places m ≡ Some place) (within : m < length places) (ends : HasEnded work_spans after place time) where
  there : (k : ℕ) → k ≢ m → place_at (slice_set places m None) k ≡ place_at places k
  there k other = get_or-set_other places m k None None other

  same_place : {a b : ℕ} → Some a ≡ Some b → a ≡ b
  same_place e = cc

  mine : (work_span_at work_spans place).«module».0 ≡ m
  mine = (open_on new time m place live places work_spans are leaves.stands leaves.was is).own

  pub closed_work_span : AreOpen new time now (slice_set places m None) after
  closed_work_span = record {
    count = length-set places m None ∙ are.count;
    opened = λ k stands on. elim (cases_eq k m) as (λ _. (j : ℕ) × (place_at (slice_set places m None) k ≡ Some j) × IsOpenAt new after k j) [
      | inl same ↦
          let off : now k ≡ false = ap now same ∙ leaves.quiet in
          let no : ⊥ = cc in absurd no
      | inr other ↦
          let was = are.opened k stands (sym (leaves.others k other) ∙ on) in
          let j = was.0 in
          let apart : j ≢ place = λ e. other (sym was.2.own ∙ ap (λ i. (work_span_at work_spans i).«module».0) e ∙ mine) in
          let same = ends.others j apart in (
            j,
            there k other ∙ was.1,
            record {
              within = let size = ends.places in let low = was.2.within in omega (arith, size, low);
              own = ap (λ (s : WorkSpan). s.«module».0) same ∙ was.2.own;
              on = ap (λ (s : WorkSpan). s.last_end) same ∙ was.2.on;
            },
          )
    ];
    closed = λ k off. elim (cases_eq k m) as (λ _. place_at (slice_set places m None) k ≡ None) [
      | inl same ↦ ap (place_at (slice_set places m None)) same ∙ get_or-set_same places m None None within
      | inr other ↦ there k other ∙ are.closed k (sym (leaves.others k other) ∙ off)
    ];
    over = λ k low past.
        let apart : k ≢ place = λ e.
        let end : (work_span_at after k).last_end ≡ time = ap (λ j. (work_span_at after j).last_end) e ∙ ap (λ (s : WorkSpan). s.last_end) ends.here in
        omega (arith, end, past) in
        let same = ends.others k apart in
        let was = are.over k (let size = ends.places in omega (arith, size, low)) (subst (λ (s : WorkSpan). time < s.last_end) same past) in
        let other : (work_span_at work_spans k).«module».0 ≢ m = λ e. apart (same_place (sym was.1 ∙ ap (place_at places) e ∙ is)) in
        let own : (work_span_at after k).«module».0 ≡ (work_span_at work_spans k).«module».0 = ap (λ (s : WorkSpan). s.«module».0) same in
        subst (λ j. (now j ≡ true) × (place_at (slice_set places m None) j ≡ Some k) × IsSome (module_at new j)) (sym own)
        (leaves.others (work_span_at work_spans k).«module».0 other ∙ was.0, there (work_span_at work_spans k).«module».0 other ∙ was.1, was.2);
  }

-- ---- overlays

-- a overlay is handed back
pub handed_back : (overlays : List CheckpointOverlay) (m time : ℕ) (was after : CheckpointOverlay) → m < length overlays → was ≡ overlay_at overlays m → IsInOrder after
    → ((old : Option (List Checkpoint)) (c : ℕ) → overlay_state after old c ≡ (if nat_lt c (time + 1) then overlay_state was old c else state_in old c)) → HasHandedBack overlays (slice_set overlays m after) m time
handed_back overlays m time was after within read order states = record {
  places = length-set overlays m after;
  here = λ new run r is.
      let slot = slot_at run.kept m in
      subst (IsOverlayAt new run time m r false) (sym (get_or-set_same overlays m after Old within))
      (left_overlay new run time m r was after order
      (λ b less. states slot b ∙ rw (lt-ltb b (time + 1) less) refl)
      (λ b past. states slot b ∙ rw (le-ltb b (time + 1) past) refl)
      (subst (IsOverlayAt new run time m r true) (sym read) is));
  others = λ k other. get_or-set_other overlays m k after Old other;
}

pub left_overlays : (new : Circuit) (run : Outcome) (kept : ℕ → ℕ) (time m : ℕ) (live now : ℕ → Bool) (overlays later : List CheckpointOverlay) → AreOverlays new run kept live overlays → LeavesAt new live now m time → kept m ≡ time
    → HasHandedBack overlays later m time → AreOverlays new run kept now later
left_overlays new run kept time m live now overlays later are leaves here handed = record {
  places = handed.places ∙ are.places;
  each = λ k r at. elim (cases_eq k m) as (λ _. IsOverlayAt new run (kept k) k r (now k) (overlay_at later k)) [
    | inl same ↦
        let there : module_at new m ≡ Some r = subst (λ j. module_at new j ≡ Some r) same at in
        let was : IsOverlayAt new run time m r true (overlay_at overlays m) =
        subst (λ t. IsOverlayAt new run t m r true (overlay_at overlays m)) here (subst (λ b. IsOverlayAt new run (kept m) m r b (overlay_at overlays m)) leaves.was (are.each m r there)) in
        subst (λ j. IsOverlayAt new run (kept j) j r (now j) (overlay_at later j)) (sym same)
        (subst (λ b. IsOverlayAt new run (kept m) m r b (overlay_at later m)) (sym leaves.quiet)
        (subst (λ t. IsOverlayAt new run t m r false (overlay_at later m)) (sym here) (handed.here new run r was)))
    | inr other ↦
        subst (λ l. IsOverlayAt new run (kept k) k r (now k) l) (sym (handed.others k other))
        (subst (λ b. IsOverlayAt new run (kept k) k r b (overlay_at overlays k)) (sym (leaves.others k other)) (are.each k r at))
  ];
}

-- ---- the list

-- who is live was so
pub was_live : (new : Circuit) (live now : ℕ → Bool) (m time : ℕ) → LeavesAt new live now m time → (k : ℕ) → now k ≡ true → live k ≡ true
was_live new live now m time leaves k on = elim (cases_eq k m) as (λ _. live k ≡ true) [
  | inl same ↦ ap live same ∙ leaves.was
  | inr other ↦ sym (leaves.others k other) ∙ on
]

-- a filter keeps what passes it
pub filter_keeps : {A : Type 0} (test : A → Bool) (xs : List A) (x : A) → test x ≡ true → Contains xs x → Contains (filter test xs) x
filter_keeps test [] x passes has = absurd (none_in x has)
filter_keeps test (y ∷ ys) x passes has = elim (contains_cons y x ys has) as (λ _. Contains (filter test (y ∷ ys)) x) [
  | inl same ↦ let here : test y ≡ true = ap test same ∙ passes in rw here (subst (λ z. Contains (z ∷ filter test ys) x) (sym same) (0, omega arith, refl))
  | inr more ↦ by (test y) (filter_keeps test ys x passes more)
]
  where
    by : (b : Bool) → Contains (filter test ys) x → Contains (cond b (y ∷ filter test ys) (filter test ys)) x
    by true has = Contains-append_right (y ∷ []) (filter test ys) x has
    by false has = has
