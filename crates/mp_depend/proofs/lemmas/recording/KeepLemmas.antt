-- Ledgers while modules are evaluated again.
use Rattle.std.proofs.Common.{◌≡◌, ◌⊎◌, ℕ, ◌+◌, ◌<◌, ◌≤◌, Bool, true, false, List, [], ◌∷◌, ◌++◌, Option, Some, None, IsSome, length, slice_set, refl, sym, subst, ◌∙◌, arith, inl, inr}
use Rattle.std.proofs.Math.ListN.{length-set}
use Rattle.std.proofs.lemmas.Bool.{cases_lt, cases_eq, cases_Bool}
use Rattle.std.proofs.lemmas.List.{get_or_push, get_or_append_left, get_or-set_same, get_or-set_other}
use Rattle.std.proofs.lemmas.List.Elements.{All-weaker}
use Rattle.mp_modules.specs.declared.memory.Memory.{Memory}
use Rattle.mp_records.specs.declared.module_record.ModuleRecord.{ModuleRecord}
use Rattle.mp_netlist.specs.Slots.{slot_at}
use Rattle.mp_netlist.specs.Circuit.{Circuit, module_at}
use Rattle.mp_partition.specs.declared.runs.checkpoint.Checkpoint.{Checkpoint}
use Rattle.mp_partition.specs.runs.Checkpoints.{state_before, IsBorder}
use Rattle.mp_partition.specs.runs.Marks.{is_marked}
use Rattle.mp_partition.specs.runs.Outcomes.{Outcome}
use Rattle.mp_depend.specs.declared.recording.checkpoint_overlay.CheckpointOverlay.{CheckpointOverlay}
use Rattle.mp_depend.specs.declared.recording.checkpoint_overlay.CheckpointOverlay.TheVariants.{Old, Own}
use Rattle.mp_depend.specs.recording.Keeping.{IsOverlayAt, IsNextBorder, HasKept, AreOverlays, AreOldStates, KeepsState}
use Rattle.mp_depend.specs.recording.Overlays.{state_in, overlay_state, overlay_at, AreTimesBefore, IsInOrder, IsOwn}

times_later : (kept : List Checkpoint) (time later : ℕ) → time ≤ later → AreTimesBefore time kept → AreTimesBefore later kept
times_later kept time later le times = All-weaker (λ (k : Checkpoint). k.time < time) (λ (k : Checkpoint). k.time < later) (λ k low. omega (arith, low, le)) kept times

-- what can be kept from a time on can be kept later, and up to an earlier end
pub own_later : (overlay : CheckpointOverlay) (next later end sooner : ℕ) → next ≤ later → sooner ≤ end → IsOwn overlay next end → IsOwn overlay later sooner
own_later Old next later end sooner le short own = absurd own
own_later (Own kept until) next later end sooner le short own = (times_later kept next later le own.0, omega (arith, own.1, short))

pub own_order : (overlay : CheckpointOverlay) (next end : ℕ) → next ≤ end → IsOwn overlay next end → IsInOrder overlay
own_order Old next end le own = absurd own
own_order (Own kept until) next end le own = times_later kept next until (omega (arith, own.1, le)) own.0

-- the overlay of a module that isn't live, at the next border
pub quiet_kept : (new : Circuit) (run : Outcome) (t time m : ℕ) (r : ModuleRecord) (overlay : CheckpointOverlay) → IsNextBorder new t time → state_in (slot_at run.kept m) time ≡ state_before new m r time
    → IsOverlayAt new run t m r false overlay → IsOverlayAt new run time m r false overlay
quiet_kept new run t time m r overlay next at is = record {
  right = λ c border le low. elim (cases_lt t c) as (λ _. overlay_state overlay (slot_at run.kept m) c ≡ state_before new m r c) [
    | inl later ↦ elim (cases_lt c time) as (λ _. overlay_state overlay (slot_at run.kept m) c ≡ state_before new m r c) [
      | inl less ↦ absurd (next.none c border later less)
      | inr past ↦
          let same : time ≡ c = omega arith in
          is.follows refl c later ∙ subst (λ b. state_in (slot_at run.kept m) b ≡ state_before new m r b) same at
    ]
    | inr sooner ↦ is.right c border sooner low
  ];
  order = is.order;
  ready = λ live. let no : ⊥ = cc in absurd no;
  follows = λ q c later. is.follows q c (let first = next.later in omega (arith, first, later));
}

-- a live module's overlay that has been given its state at a border, where its states before the earlier ones are right
given_state : (new : Circuit) (run : Outcome) (time m : ℕ) (r : ModuleRecord) (memory : Memory) (overlay after : CheckpointOverlay) → time < new.horizon → memory ≡ state_before new m r time → HasKept time memory overlay after
    → IsOwn overlay (time + 1) new.horizon → ((c : ℕ) → IsBorder new.horizon c → c < time → overlay_state overlay (slot_at run.kept m) c ≡ state_before new m r c)
    → IsOverlayAt new run time m r true after
given_state new run time m r memory overlay after low at has own were = record {
  right = λ c border le below. elim (cases_lt c time) as (λ _. overlay_state after (slot_at run.kept m) c ≡ state_before new m r c) [
    | inl less ↦ has.before (slot_at run.kept m) c less ∙ were c border less
    | inr past ↦
        let same : time ≡ c = omega arith in
        has.state (slot_at run.kept m) c past (own_later overlay (time + 1) (time + 1) new.horizon (c + 1) (omega arith) (omega arith) own)
        ∙ subst (λ b. memory ≡ state_before new m r b) same at
  ];
  order = own_order after (time + 1) new.horizon (omega arith) (has.own new.horizon own);
  ready = λ live. has.own new.horizon own;
  follows = λ quiet. let no : ⊥ = cc in absurd no;
}

pub live_kept : (new : Circuit) (run : Outcome) (t time m : ℕ) (r : ModuleRecord) (memory : Memory) (overlay after : CheckpointOverlay) → IsNextBorder new t time ⊎ (t ≡ time) → time < new.horizon → memory ≡ state_before new m r time
    → HasKept time memory overlay after → IsOverlayAt new run t m r true overlay → IsOverlayAt new run time m r true after
live_kept new run t time m r memory overlay after (inl next) low at has is =
    let later = next.later in
    given_state new run time m r memory overlay after low at has
    (own_later overlay (t + 1) (time + 1) new.horizon new.horizon (omega (arith, later)) (omega arith) (is.ready refl))
    (λ c border less. elim (cases_lt t c) as (λ _. overlay_state overlay (slot_at run.kept m) c ≡ state_before new m r c) [
      | inl behind ↦ absurd (next.none c border behind less)
      | inr le ↦ is.right c border le (omega (arith, less, low))
    ])
live_kept new run t time m r memory overlay after (inr same) low at has is =
    given_state new run time m r memory overlay after low at has
    (own_later overlay (t + 1) (time + 1) new.horizon new.horizon (omega (arith, same)) (omega arith) (is.ready refl))
    (λ c border less. is.right c border (omega (arith, less, same)) (omega (arith, less, low)))

-- a module that becomes live
pub joined_overlay : (new : Circuit) (run : Outcome) (block end m : ℕ) (r : ModuleRecord) (overlay after : CheckpointOverlay) → block < end → new.horizon ≡ end → IsOwn after (block + 1) end
    → ((c : ℕ) → c < block + 1 → c < end → overlay_state after (slot_at run.kept m) c ≡ overlay_state overlay (slot_at run.kept m) c)
    → IsOverlayAt new run block m r false overlay → IsOverlayAt new run block m r true after
joined_overlay new run block end m r overlay after less same own before is = record {
  right = λ c border le low. before c (omega (arith, le)) (omega (arith, low, same)) ∙ is.right c border le low;
  order = own_order after (block + 1) end (omega (arith, less)) own;
  ready = λ live. subst (IsOwn after (block + 1)) (sym same) own;
  follows = λ quiet. let no : ⊥ = cc in absurd no;
}

-- a module that is live no longer
pub left_overlay : (new : Circuit) (run : Outcome) (time m : ℕ) (r : ModuleRecord) (overlay after : CheckpointOverlay) → IsInOrder after
    → ((c : ℕ) → c < time + 1 → overlay_state after (slot_at run.kept m) c ≡ overlay_state overlay (slot_at run.kept m) c)
    → ((c : ℕ) → time + 1 ≤ c → overlay_state after (slot_at run.kept m) c ≡ state_in (slot_at run.kept m) c)
    → IsOverlayAt new run time m r true overlay → IsOverlayAt new run time m r false after
left_overlay new run time m r overlay after order before from is = record {
  right = λ c border le low. before c (omega (arith, le)) ∙ is.right c border le low;
  order = order;
  ready = λ live. let no : ⊥ = cc in absurd no;
  follows = λ quiet c later. from c (omega (arith, later));
}

-- the first overlay of a module that is touched or isn't
abbrev pub IsFirst : Circuit → List Bool → ℕ → CheckpointOverlay → Type 0
IsFirst new touched m overlay = (run : Outcome) (r : ModuleRecord) → module_at new m ≡ Some r → (is_marked touched m ≡ false → state_in (slot_at run.kept m) 0 ≡ state_before new m r 0)
    → IsOverlayAt new run 0 m r (is_marked touched m) overlay

-- one overlay more
pub first_more : (new : Circuit) (touched : List Bool) (overlays : List CheckpointOverlay) (overlay : CheckpointOverlay) (i : ℕ) → length overlays ≡ i → IsFirst new touched i overlay
    → ((k : ℕ) → k < i → IsFirst new touched k (overlay_at overlays k)) → (k : ℕ) → k < i + 1 → IsFirst new touched k (overlay_at (overlays ++ overlay ∷ []) k)
first_more new touched overlays overlay i size is are k low = elim (cases_eq k i) as (λ _. IsFirst new touched k (overlay_at (overlays ++ overlay ∷ []) k)) [
  | inl same ↦
      subst (IsFirst new touched k) (sym (get_or_push overlays overlay Old k (size ∙ sym same)))
      (subst (λ j. IsFirst new touched j overlay) (sym same) is)
  | inr other ↦
      subst (IsFirst new touched k) (sym (get_or_append_left overlays (overlay ∷ []) Old k (omega (arith, low, other, size)))) (are k (omega (arith, low, other)))
]

-- ---- the overlays of all modules

-- one has been given its state
pub one_kept : (new : Circuit) (run : Outcome) (kept later : ℕ → ℕ) (live : ℕ → Bool) (m time : ℕ) (memory : Memory) (overlays : List CheckpointOverlay) (after : CheckpointOverlay) → m < length overlays → KeepsState new live kept later m time memory
    → HasKept time memory (overlay_at overlays m) after → AreOverlays new run kept live overlays → AreOverlays new run later live (slice_set overlays m after)
one_kept new run kept later live m time memory overlays after within state has are = record {
  places = length-set overlays m after ∙ are.places;
  each = λ k r stands. elim (cases_eq k m) as (λ _. IsOverlayAt new run (later k) k r (live k) (overlay_at (slice_set overlays m after) k)) [
    | inl same ↦
        let there : module_at new m ≡ Some r = subst (λ j. module_at new j ≡ Some r) same stands in
        let one : state.part ≡ r = same_part (sym state.stands ∙ there) in
        let was : IsOverlayAt new run (kept m) m r true (overlay_at overlays m) = subst (λ b. IsOverlayAt new run (kept m) m r b (overlay_at overlays m)) state.on (are.each m r there) in
        let now : IsOverlayAt new run time m r true after =
        live_kept new run (kept m) time m r memory (overlay_at overlays m) after state.border state.below (subst (λ (x : ModuleRecord). memory ≡ state_before new m x time) one state.state) has was in
        subst (λ j. IsOverlayAt new run (later j) j r (live j) (overlay_at (slice_set overlays m after) j)) (sym same)
        (subst (λ t. IsOverlayAt new run t m r (live m) (overlay_at (slice_set overlays m after) m)) (sym state.here)
        (subst (λ b. IsOverlayAt new run time m r b (overlay_at (slice_set overlays m after) m)) (sym state.on)
        (subst (IsOverlayAt new run time m r true) (sym (get_or-set_same overlays m after Old within)) now)))
    | inr other ↦
        subst (λ t. IsOverlayAt new run t k r (live k) (overlay_at (slice_set overlays m after) k)) (sym (state.others k other))
        (subst (IsOverlayAt new run (kept k) k r (live k)) (sym (get_or-set_other overlays m k after Old other)) (are.each k r stands))
  ];
}
  where
    same_part : {a b : ModuleRecord} → Some a ≡ Some b → a ≡ b
    same_part e = cc

-- those of live modules have been given their states, and those of the others have them
pub all_kept : (new : Circuit) (run : Outcome) (block time : ℕ) (kept : ℕ → ℕ) (live : ℕ → Bool) (overlays : List CheckpointOverlay) → IsNextBorder new block time → AreOldStates new run time live
    → ((m : ℕ) → live m ≡ false → kept m ≡ block) → ((m : ℕ) → IsSome (module_at new m) → live m ≡ true → kept m ≡ time)
    → AreOverlays new run kept live overlays → AreOverlays new run (λ m. time) live overlays
all_kept new run block time kept live overlays next states quiet done are = record {
  places = are.places;
  each = λ m r stands. elim (cases_Bool (live m)) as (λ _. IsOverlayAt new run time m r (live m) (overlay_at overlays m)) [
    | inl on ↦ subst (λ t. IsOverlayAt new run t m r (live m) (overlay_at overlays m)) (done m (some_part (module_at new m) r stands) on) (are.each m r stands)
    | inr off ↦
        let was : IsOverlayAt new run block m r false (overlay_at overlays m) =
        subst (λ b. IsOverlayAt new run block m r b (overlay_at overlays m)) off (subst (λ t. IsOverlayAt new run t m r (live m) (overlay_at overlays m)) (quiet m off) (are.each m r stands)) in
        subst (λ b. IsOverlayAt new run time m r b (overlay_at overlays m)) (sym off) (quiet_kept new run block time m r (overlay_at overlays m) next (states m r stands off) was)
  ];
}
  where
    some_part : (slot : Option ModuleRecord) (r : ModuleRecord) → slot ≡ Some r → IsSome slot
    some_part None r e = cc
    some_part (Some x) r e = refl
