-- Modules join: their work spans are open, and their overlays are their own.
use Rattle.std.proofs.Common.{◌≡◌, ◌⊎◌, ℕ, ◌<◌, Bool, true, false, List, Option, Some, None, IsSome, length, ap, sym, subst, ◌∙◌, arith, inl, inr}
use Rattle.std.specs.List.{Contains}
use Rattle.std.proofs.lemmas.Bool.{cases_Bool, cases_lt, both_ways, false_from_ne_true}
use Rattle.std.proofs.lemmas.Option.{none-some}
use Rattle.mp_records.specs.declared.ids.ModuleId.{ModuleId}
use Rattle.mp_records.specs.declared.module_record.ModuleRecord.{ModuleRecord}
use Rattle.mp_netlist.specs.Circuit.{Circuit, module_at}
use Rattle.mp_partition.specs.runs.Outcomes.{Outcome}
use Rattle.mp_depend.specs.declared.work.work_span.WorkSpan.{WorkSpan}
use Rattle.mp_depend.specs.work.WorkSpans.{work_span_at}
use Rattle.mp_depend.proofs.lemmas.work.StayLemmas.{some_is}
use Rattle.mp_depend.specs.declared.recording.checkpoint_overlay.CheckpointOverlay.{CheckpointOverlay}
use Rattle.mp_depend.specs.recording.Keeping.{IsOverlayAt, AreOverlays}
use Rattle.mp_depend.specs.recording.Overlays.{overlay_at}
use Rattle.mp_depend.specs.recording.Live.{place_at, IsOpenAt, AreOpen, IsListed, HaveBecomeLive}
use Rattle.mp_depend.specs.recording.Opened.{HasNoWorkSpan, HasNew, HaveOpened, HaveJoined}

-- ---- which modules are live where some have joined

module _ (new : Circuit) (from : ℕ) (joined : List ModuleId) (live now : ℕ → Bool) (places : List (Option ℕ)) (work_spans : List WorkSpan) (have : HaveBecomeLive new joined live now) (goes : AreOpen new from live places work_spans) where
  -- a module that stands and has no work span wasn't live before
  pub dark_before : (m : ℕ) → IsSome (module_at new m) → place_at places m ≡ None → live m ≡ false
  dark_before m stands none = false_from_ne_true (live m) (λ on.
      let found = goes.opened m stands on in
      none-some found.0 (sym none ∙ found.1))

  pub dark_still : (m : ℕ) → now m ≡ false → live m ≡ false
  dark_still m off = false_from_ne_true (live m) (λ on. both_ways (now m) off (have.stay m on))

  module _ (after : List (Option ℕ)) (done : (m : ℕ) → Contains joined (record { 0 = m }) → HasNoWorkSpan new now after m → ⊥) where
    -- where no module is left joining, one that has become live isn't as it was
    pub left_alone : (m : ℕ) → IsSome (module_at new m) → now m ≡ true → live m ≡ false → place_at after m ≡ place_at places m → ⊥
    left_alone m stands on off same =
        let joins : HasNoWorkSpan new now after m = record { stands = stands; on = on; none = same ∙ goes.closed m off } in
        both_ways (live m) off (sym (have.others m (λ is. done m is joins)) ∙ on)

    -- the overlays of those that have joined are their own
    pub joined_overlays : (run : Outcome) (block : ℕ) (overlays later : List CheckpointOverlay) → HaveJoined new run block now places after overlays later
        → AreOverlays new run (λ m. block) live overlays → AreOverlays new run (λ m. block) now later
    joined_overlays run block overlays later taken are = record {
      places = taken.count ∙ are.places;
      each = λ m r stands. elim (taken.each m) as (λ _. IsOverlayAt new run block m r (now m) (overlay_at later m)) [
        | inl same ↦
            subst (λ l. IsOverlayAt new run block m r (now m) l) (sym same.1)
            (subst (λ b. IsOverlayAt new run block m r b (overlay_at overlays m)) (was m r stands same.0) (are.each m r stands))
        | inr has ↦
            subst (λ b. IsOverlayAt new run block m r b (overlay_at later m)) (sym has.joins.on)
            (has.takes r (subst (λ b. IsOverlayAt new run block m r b (overlay_at overlays m)) (dark_before m has.joins.stands has.joins.none) (are.each m r stands)))
      ];
    }
      where
        was : (m : ℕ) (r : ModuleRecord) → module_at new m ≡ Some r → place_at after m ≡ place_at places m → live m ≡ now m
        was m r stands same = elim (cases_Bool (live m)) as (λ _. live m ≡ now m) [
          | inl on ↦ on ∙ sym (have.stay m on)
          | inr off ↦ off ∙ sym (false_from_ne_true (now m) (λ on. left_alone m (some_is (module_at new m) r stands) on off same))
        ]

    -- and they are listed as live with those that were
    pub joined_listed : (list more : List ModuleId) → ((m : ℕ) → HasNoWorkSpan new now places m → HasNoWorkSpan new now after m ⊎ Contains more (record { 0 = m }))
        → ((m : ℕ) → Contains list (record { 0 = m }) → Contains more (record { 0 = m })) → IsListed new live list → IsListed new now more
    joined_listed list more either still listed m stands on = elim (cases_Bool (live m)) as (λ _. Contains more (record { 0 = m })) [
      | inl was ↦ still m (listed m stands was)
      | inr off ↦ elim (either m (record { stands = stands; on = on; none = goes.closed m off })) as (λ _. Contains more (record { 0 = m })) [
        | inl joins ↦ absurd (both_ways (live m) off (sym (have.others m (λ is. done m is joins)) ∙ on))
        | inr is ↦ is
      ]
    ]

-- ---- which work spans are open

module _ (new : Circuit) (from to block : ℕ) (joined : List ModuleId) (live now : ℕ → Bool) (places after : List (Option ℕ)) (work_spans opened : List WorkSpan)
    (have : HaveBecomeLive new joined live now) (goes : AreOpen new from live places work_spans)
    (rel : HaveOpened new block to now places after work_spans opened) (done : (m : ℕ) → Contains joined (record { 0 = m }) → HasNoWorkSpan new now after m → ⊥) where
  -- who was live keeps its work span
  pub kept_place : (m : ℕ) → IsSome (module_at new m) → live m ≡ true → place_at after m ≡ place_at places m
  kept_place m stands on = elim (rel.each m) as (λ _. place_at after m ≡ place_at places m) [
    | inl same ↦ same
    | inr found ↦ absurd (both_ways (live m) (dark_before new from joined live now places work_spans have goes m stands found.1.joins.none) on)
  ]

  -- who has become live has a new one
  pub new_place : (m : ℕ) → IsSome (module_at new m) → now m ≡ true → live m ≡ false → (k : ℕ) × HasNew new block to now places after (length work_spans) opened m k
  new_place m stands on off = elim (rel.each m) as (λ _. (k : ℕ) × HasNew new block to now places after (length work_spans) opened m k) [
    | inl same ↦ absurd (left_alone new from joined live now places work_spans have goes after done m stands on off same)
    | inr found ↦ found
  ]

  new_open : (m k : ℕ) → HasNew new block to now places after (length work_spans) opened m k → IsOpenAt new opened m k
  new_open m k is = record {
    within = is.within;
    own = ap (λ (s : WorkSpan). s.«module».0) is.is;
    on = ap (λ (s : WorkSpan). s.last_end) is.is;
  }

  old_open : (m k : ℕ) → IsOpenAt new work_spans m k → IsOpenAt new opened m k
  old_open m k is =
      let within = is.within in
      let more = rel.more in
      record {
        within = omega (arith, within, more);
        own = ap (λ (s : WorkSpan). s.«module».0) (rel.olds k is.within) ∙ is.own;
        on = ap (λ (s : WorkSpan). s.last_end) (rel.olds k is.within) ∙ is.on;
      }

  -- the module of a work span is live, stands, and has it
  abbrev IsOver : ℕ → WorkSpan → Type 0
  IsOver k s = (now s.«module».0 ≡ true) × (place_at after s.«module».0 ≡ Some k) × IsSome (module_at new s.«module».0)

  over_old : (k : ℕ) → k < length work_spans → from < (work_span_at work_spans k).last_end → IsOver k (work_span_at work_spans k)
  over_old k low later =
      let was = goes.over k low later in
      let m = (work_span_at work_spans k).«module».0 in
      (have.stay m was.0, kept_place m was.2 was.0 ∙ was.1, was.2)

  over_new : (m k : ℕ) → HasNew new block to now places after (length work_spans) opened m k → IsOver k (work_span_at opened k)
  over_new m k is = subst (IsOver k) (sym is.is) (is.joins.on, is.place, is.joins.stands)

  pub open_after : from < to → AreOpen new to now after opened
  open_after less = record {
    count = rel.count ∙ goes.count;
    opened = λ m stands on. elim (cases_Bool (live m)) as (λ _. (k : ℕ) × (place_at after m ≡ Some k) × IsOpenAt new opened m k) [
      | inl was ↦
          let found = goes.opened m stands was in
          (found.0, kept_place m stands was ∙ found.1, old_open m found.0 found.2)
      | inr off ↦
          let found = new_place m stands on off in
          (found.0, found.1.place, new_open m found.0 found.1)
    ];
    closed = λ m off. elim (rel.each m) as (λ _. place_at after m ≡ None) [
      | inl same ↦ same ∙ goes.closed m (dark_still new from joined live now places work_spans have goes m off)
      | inr found ↦ absurd (both_ways (now m) off found.1.joins.on)
    ];
    over = λ k within later. elim (cases_lt k (length work_spans)) as (λ _. IsOver k (work_span_at opened k)) [
      | inl low ↦
          let end = ap (λ (s : WorkSpan). s.last_end) (rel.olds k low) in
          subst (IsOver k) (sym (rel.olds k low)) (over_old k low (omega (arith, end, later, less)))
      | inr high ↦
          let found = rel.news k high within in
          over_new found.0 k found.1
    ];
  }
