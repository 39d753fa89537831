-- Work spans are opened one by one, and overlays taken over.
use Rattle.std.proofs.Common.{◌≡◌, ◌⊎◌, ℕ, ◌+◌, ◌<◌, Bool, true, false, List, [], ◌∷◌, ◌++◌, Option, Some, None, is_some, length, slice_set, refl, sym, subst, ◌∙◌, arith, inl, inr}
use Rattle.std.specs.List.{Contains}
use Rattle.std.proofs.Math.ListN.{length-set}
use Rattle.std.proofs.lemmas.Bool.{cases_eq, cases_lt}
use Rattle.std.proofs.lemmas.List.{get_or_push, get_or_append_left, get_or-set_same, get_or-set_other, length_push}
use Rattle.std.proofs.lemmas.Option.{none-some}
use Rattle.mp_records.specs.declared.ids.ModuleId.{ModuleId}
use Rattle.mp_netlist.specs.Slots.{slot_at}
use Rattle.mp_netlist.specs.Circuit.{Circuit}
use Rattle.mp_partition.specs.runs.Outcomes.{Outcome}
use Rattle.mp_depend.specs.declared.work.work_span.WorkSpan.{WorkSpan}
use Rattle.mp_depend.specs.work.WorkSpans.{no_work_span}
use Rattle.mp_depend.specs.declared.recording.checkpoint_overlay.CheckpointOverlay.{CheckpointOverlay}
use Rattle.mp_depend.specs.declared.recording.checkpoint_overlay.CheckpointOverlay.TheVariants.{Old}
use Rattle.mp_depend.specs.recording.Keeping.{IsOverlayAt}
use Rattle.mp_depend.specs.recording.Overlays.{overlay_at, overlay_state, IsOwn}
use Rattle.mp_depend.specs.recording.Live.{place_at}
use Rattle.mp_depend.specs.recording.Opened.{HasNoWorkSpan, work_span_from, HasNew, HaveOpened, HasJoined, HaveJoined}
use Rattle.mp_depend.proofs.lemmas.recording.KeepLemmas.{joined_overlay}

-- none has been opened
pub opened_none : (new : Circuit) (from to : ℕ) (live : ℕ → Bool) (places : List (Option ℕ)) (work_spans : List WorkSpan) → HaveOpened new from to live places places work_spans work_spans
opened_none new from to live places work_spans = record {
  count = refl;
  more = omega arith;
  olds = λ k low. refl;
  news = λ k high low. absurd (omega (arith, high, low));
  each = λ m. inl refl;
}

-- the work span of one module is opened
pub opened_one : (new : Circuit) (from to : ℕ) (live : ℕ → Bool) (places : List (Option ℕ)) (work_spans : List WorkSpan) (m : ℕ) → m < length places → HasNoWorkSpan new live places m
    → HaveOpened new from to live places (slice_set places m (Some (length work_spans))) work_spans (work_spans ++ work_span_from new m from to ∷ [])
opened_one new from to live places work_spans m within joins = record {
  count = length-set places m (Some (length work_spans));
  more = let size = length_push work_spans (work_span_from new m from to) in omega (arith, size);
  olds = λ k low. get_or_append_left work_spans (work_span_from new m from to ∷ []) no_work_span k low;
  news = λ k high low.
      let size = length_push work_spans (work_span_from new m from to) in
      let last : length work_spans ≡ k = omega (arith, high, low, size) in
      (m, subst (HasNew new from to live places (slice_set places m (Some (length work_spans))) (length work_spans) (work_spans ++ work_span_from new m from to ∷ []) m) last here);
  each = λ k. elim (cases_eq k m) as (λ _. (place_at (slice_set places m (Some (length work_spans))) k ≡ place_at places k)
      ⊎ ((j : ℕ) × HasNew new from to live places (slice_set places m (Some (length work_spans))) (length work_spans) (work_spans ++ work_span_from new m from to ∷ []) k j)) [
        | inl same ↦
            inr (length work_spans, subst (λ i. HasNew new from to live places (slice_set places m (Some (length work_spans))) (length work_spans) (work_spans ++ work_span_from new m from to ∷ []) i (length work_spans)) (sym same) here)
        | inr other ↦ inl (get_or-set_other places m k (Some (length work_spans)) None other)
      ];
}
  where
    here : HasNew new from to live places (slice_set places m (Some (length work_spans))) (length work_spans) (work_spans ++ work_span_from new m from to ∷ []) m (length work_spans)
    here = record {
      behind = omega arith;
      within = let size = length_push work_spans (work_span_from new m from to) in omega (arith, size);
      is = get_or_push work_spans (work_span_from new m from to) no_work_span (length work_spans) refl;
      place = get_or-set_same places m (Some (length work_spans)) None within;
      joins = joins;
    }

-- who is joining after some have been opened was joining before
pub joined_before : (new : Circuit) (from to : ℕ) (live : ℕ → Bool) (places after : List (Option ℕ)) (work_spans opened : List WorkSpan) → HaveOpened new from to live places after work_spans opened
    → (m : ℕ) → HasNoWorkSpan new live after m → HasNoWorkSpan new live places m
joined_before new from to live places after work_spans opened rel m joins = elim (rel.each m) as (λ _. HasNoWorkSpan new live places m) [
  | inl same ↦ record { stands = joins.stands; on = joins.on; none = sym same ∙ joins.none }
  | inr found ↦ found.1.joins
]

module _ (new : Circuit) (from to : ℕ) (live : ℕ → Bool) (places next after : List (Option ℕ)) (work_spans more opened : List WorkSpan)
    (one : HaveOpened new from to live places next work_spans more) (other : HaveOpened new from to live next after more opened) where
  -- one that has been opened stays so
  stays_new : (m k : ℕ) → HasNew new from to live places next (length work_spans) more m k → HasNew new from to live places after (length work_spans) opened m k
  stays_new m k is =
      let low = is.within in
      let size = other.more in
      record {
        behind = is.behind;
        within = omega (arith, low, size);
        is = other.olds k is.within ∙ is.is;
        place = elim (other.each m) as (λ _. place_at after m ≡ Some k) [
          | inl same ↦ same ∙ is.place
          | inr found ↦ absurd (none-some k (sym found.1.joins.none ∙ is.place))
        ];
        joins = is.joins;
      }

  then_new : (m k : ℕ) → HasNew new from to live next after (length more) opened m k → HasNew new from to live places after (length work_spans) opened m k
  then_new m k is =
      let high = is.behind in
      let size = one.more in
      record {
        behind = omega (arith, high, size);
        within = is.within;
        is = is.is;
        place = is.place;
        joins = joined_before new from to live places next work_spans more one m is.joins;
      }

  pub opened_then : HaveOpened new from to live places after work_spans opened
  opened_then =
      let first = one.more in
      let second = other.more in
      record {
        count = other.count ∙ one.count;
        more = omega (arith, first, second);
        olds = λ k low. other.olds k (omega (arith, low, first)) ∙ one.olds k low;
        news = λ k high low. elim (cases_lt k (length more)) as (λ _. (m : ℕ) × HasNew new from to live places after (length work_spans) opened m k) [
          | inl early ↦
              let found = one.news k high early in
              (found.0, stays_new found.0 k found.1)
          | inr late ↦
              let found = other.news k late low in
              (found.0, then_new found.0 k found.1)
        ];
        each = λ m. elim (one.each m) as (λ _. (place_at after m ≡ place_at places m) ⊎ ((k : ℕ) × HasNew new from to live places after (length work_spans) opened m k)) [
          | inr found ↦ inr (found.0, stays_new m found.0 found.1)
          | inl same ↦ elim (other.each m) as (λ _. (place_at after m ≡ place_at places m) ⊎ ((k : ℕ) × HasNew new from to live places after (length work_spans) opened m k)) [
            | inl still ↦ inl (still ∙ same)
            | inr found ↦ inr (found.0, then_new m found.0 found.1)
          ]
        ];
      }

-- ---- overlays

-- none has joined
pub joined_none : (new : Circuit) (run : Outcome) (block : ℕ) (live : ℕ → Bool) (places : List (Option ℕ)) (overlays : List CheckpointOverlay) → HaveJoined new run block live places places overlays overlays
joined_none new run block live places overlays = record { count = refl; each = λ m. inl (refl, refl) }

-- one module joins
pub one_joined : (new : Circuit) (run : Outcome) (block : ℕ) (live : ℕ → Bool) (places after : List (Option ℕ)) (overlays later : List CheckpointOverlay) (m : ℕ) → length later ≡ length overlays
    → HasJoined new run block live places after m (overlay_at overlays m) (overlay_at later m)
    → ((k : ℕ) → (k ≡ m → ⊥) → place_at after k ≡ place_at places k) → ((k : ℕ) → (k ≡ m → ⊥) → overlay_at later k ≡ overlay_at overlays k) → HaveJoined new run block live places after overlays later
one_joined new run block live places after overlays later m size has same_places same_overlays = record {
  count = size;
  each = λ k. elim (cases_eq k m) as (λ _. ((place_at after k ≡ place_at places k) × (overlay_at later k ≡ overlay_at overlays k)) ⊎ HasJoined new run block live places after k (overlay_at overlays k) (overlay_at later k)) [
    | inl one ↦ inr (subst (λ j. HasJoined new run block live places after j (overlay_at overlays j) (overlay_at later j)) (sym one) has)
    | inr other ↦ inl (same_places k other, same_overlays k other)
  ];
}

module _ (new : Circuit) (run : Outcome) (block : ℕ) (live : ℕ → Bool) (places next after : List (Option ℕ)) (overlays more later : List CheckpointOverlay)
    (one : HaveJoined new run block live places next overlays more) (other : HaveJoined new run block live next after more later) where
  abbrev HasIn : ℕ → Type 0
  HasIn m = ((place_at after m ≡ place_at places m) × (overlay_at later m ≡ overlay_at overlays m)) ⊎ HasJoined new run block live places after m (overlay_at overlays m) (overlay_at later m)

  pub joined_then : HaveJoined new run block live places after overlays later
  joined_then = record {
    count = other.count ∙ one.count;
    each = λ m. elim (one.each m) as (λ _. HasIn m) [
      | inl same ↦ elim (other.each m) as (λ _. HasIn m) [
        | inl still ↦ inl (still.0 ∙ same.0, still.1 ∙ same.1)
        | inr has ↦ inr (record {
          joins = record { stands = has.joins.stands; on = has.joins.on; none = sym same.0 ∙ has.joins.none };
          some = has.some;
          takes = λ r is. has.takes r (subst (IsOverlayAt new run block m r false) (sym same.1) is);
        })
      ]
      | inr has ↦ elim (other.each m) as (λ _. HasIn m) [
        | inl still ↦ inr (record {
          joins = has.joins;
          some = λ none. has.some (sym still.0 ∙ none);
          takes = λ r is. subst (IsOverlayAt new run block m r true) (sym still.1) (has.takes r is);
        })
        | inr again ↦ absurd (has.some again.joins.none)
      ]
    ];
  }

-- the overlay of one module is taken over as its work span is opened
pub joined_one : (new : Circuit) (run : Outcome) (block end : ℕ) (live : ℕ → Bool) (places : List (Option ℕ)) (overlays : List CheckpointOverlay) (m n : ℕ) (was after : CheckpointOverlay) → m < length places → m < length overlays → HasNoWorkSpan new live places m
    → block < end → end ≡ new.horizon → was ≡ overlay_at overlays m → IsOwn after (block + 1) end
    → ((c : ℕ) → c < block + 1 → c < end → overlay_state after (slot_at run.kept m) c ≡ overlay_state was (slot_at run.kept m) c)
    → HaveJoined new run block live places (slice_set places m (Some n)) overlays (slice_set overlays m after)
joined_one new run block end live places overlays m n was after within low joins less same read own before =
    one_joined new run block live places (slice_set places m (Some n)) overlays (slice_set overlays m after) m (length-set overlays m after)
    (record {
      joins = joins;
      some = λ none. none-some n (sym none ∙ get_or-set_same places m (Some n) None within);
      takes = λ r is.
          subst (IsOverlayAt new run block m r true) (sym (get_or-set_same overlays m after Old low))
          (joined_overlay new run block end m r was after less (sym same) own before (subst (IsOverlayAt new run block m r false) (sym read) is));
    })
    (λ k other. get_or-set_other places m k (Some n) None other)
    (λ k other. get_or-set_other overlays m k after Old other)

-- who is joining after that is joining as before, or is that one
pub still_joining : (new : Circuit) (live : ℕ → Bool) (places : List (Option ℕ)) (m n : ℕ) → (k : ℕ) → (k ≡ m → ⊥) → HasNoWorkSpan new live places k → HasNoWorkSpan new live (slice_set places m (Some n)) k
still_joining new live places m n k other joins = record { stands = joins.stands; on = joins.on; none = get_or-set_other places m k (Some n) None other ∙ joins.none }

pub none_there : (place : Option ℕ) → is_some place ≡ false → place ≡ None
none_there None off = refl
none_there (Some k) off = let no : ⊥ = cc in absurd no

-- all of these are live
abbrev pub AreAllLive : List ModuleId → (ℕ → Bool) → Type 0
AreAllLive ids live = (m : ℕ) → Contains ids (record { 0 = m }) → live m ≡ true
