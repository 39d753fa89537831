-- States of active modules are kept before a border.
use Rattle.std.proofs.Common.{◌≡◌, ◌≢◌, ◌⊎◌, ℕ, ◌+◌, ◌-◌, ◌<◌, ◌≤◌, Bool, true, false, List, IsSome, Some, cond, eqb, length, slice_index_or, suc, refl, ap, sym, subst, ◌∙◌, arith, inl, inr}
use Rattle.std.proofs.lemmas.Bool.{cases_eq, both_ways, eq-eqb, ne_eqb}
use Rattle.std.proofs.lemmas.List.{get_or_default}
use Rattle.mp_modules.specs.declared.memory.Memory.{Memory}
use Rattle.mp_records.specs.declared.ids.ModuleId.{ModuleId}
use Rattle.mp_records.specs.declared.module_record.ModuleRecord.{ModuleRecord}
use Rattle.mp_netlist.specs.Circuit.{Circuit, IsCircuit, module_at}
use Rattle.mp_netlist.specs.Limits.{checkpoint_units}
use Rattle.mp_netlist.specs.Slots.{slot_at}
use Rattle.mp_netlist.proofs.LimitLemmas.{units_positive}
use Rattle.mp_model.specs.Waves.{state}
use Rattle.mp_partition.specs.runs.Checkpoints.{state_before, IsBorder}
use Rattle.mp_partition.specs.runs.Outcomes.{Outcome}
use Rattle.mp_partition.specs.runs.Runs.{IsRun}
use Rattle.mp_depend.specs.work.Revisions.{IsRevision}
use Rattle.mp_depend.specs.work.Work.{block_of, window_of, window_end, IsWindow}
use Rattle.mp_partition.proofs.lemmas.runs.MultipleLemmas.{whole_rest, multiples_apart, whole_from}
use Rattle.mp_depend.proofs.lemmas.work.WindowLemmas.{window_within, window_cover}
use Rattle.mp_depend.specs.declared.recording.rerun_recorder.RerunRecorder.{RerunRecorder}
use Rattle.mp_depend.specs.recording.Recorders.{IsRecorder, CanKeep}
use Rattle.mp_depend.specs.recording.Keeping.{IsNextBorder, KeepsState, AreOldStates}
use Rattle.mp_depend.specs.recording.Overlays.{state_in}
use Rattle.mp_depend.proofs.lemmas.recording.HistoryLemmas.{can_keep}
use Rattle.mp_active.specs.agreement.Sleeping.{AreSleeping}
use Rattle.mp_active.proofs.lemmas.agreement.SleepingLemmas.{sleepers_agree}
use Rattle.mp_redo.proofs.lemmas.rerun.StandingLemmas.{standing}
use Rattle.mp_redo.proofs.lemmas.rerun.OldStateLemmas.{kept_state}

-- ---- borders

-- the window that ends at a border
pub border_window : (new : Circuit) → IsCircuit new → (time : ℕ) → IsBorder new.horizon time → 0 < time → time < new.horizon → (start : ℕ) × IsWindow new start time
border_window new ok time border some below = (start, subst (IsWindow new start) same cover.0)
  where
    start : ℕ
    start = window_of new (time - 1)

    cover : IsWindow new start (window_end new start) × (start ≤ time - 1) × (time - 1 < window_end new start)
    cover = window_cover new ok (time - 1) (omega (arith, some, below))

    same : window_end new start ≡ time
    same =
        let units = checkpoint_units new.horizon in
        let within = window_within new ok start (window_end new start) cover.0 in
        let apart = multiples_apart units (block_of new.horizon start) time (whole_rest start units (units_positive new.horizon)) border (omega (arith, some, cover.1, within.0)) in
        omega (arith, some, cover.2, within.2, apart)

pub next_border : (new : Circuit) (time : ℕ) → IsBorder new.horizon time → 0 < time → time < new.horizon → IsNextBorder new (block_of new.horizon (time - 1)) time
next_border new time border some below = record { later = omega (arith, some); below = below; none = none }
  where
    none : (b : ℕ) → IsBorder new.horizon b → block_of new.horizon (time - 1) < b → b < time → ⊥
    none b is after before =
        let units = checkpoint_units new.horizon in
        let from = whole_from units b (time - 1) (units_positive new.horizon) is (omega (arith, before)) in
        omega (arith, from, after)

-- ---- states before borders

-- the state before a time is that of the unit before
pub before_is : (n : Circuit) (m time : ℕ) (r : ModuleRecord) → 0 < time → state_before n m r time ≡ state n m (time - 1)
before_is n m time r some = let e : suc (time - 1) ≡ time = omega (arith, some) in subst (λ k. state_before n m r k ≡ state n m (time - 1)) e refl

module _ (old new : Circuit) (old_ok : IsCircuit old) (new_ok : IsCircuit new) (revised : IsRevision old new) (run : Outcome) (is : IsRun old run) where
  -- so it is of the unit before it
  pub old_state_is : (m time : ℕ) (r : ModuleRecord) → module_at old m ≡ Some r → IsBorder new.horizon time → 0 < time → time < new.horizon → state_in (slot_at run.kept m) time ≡ state old m (time - 1)
  old_state_is m time r at border some below =
      let same = revised.horizon in
      kept_state old old_ok run is m time r at (subst (λ h. IsBorder h time) same border) (omega (arith, below, same)) ∙ before_is old m time r some

  -- of modules that sleep the old run has kept the states
  pub sleepers_kept : (active : ℕ → Bool) (since : ℕ → ℕ) (latest time : ℕ) → IsBorder new.horizon time → 0 < time → time < new.horizon → latest ≤ time → ((m : ℕ) → since m < latest + 1)
      → AreSleeping old new active since (time - 1) → AreOldStates new run time active
  sleepers_kept active since latest time border some below le early are m r at off =
      let sleeps = are m r at off in
      let first = early m in
      old_state_is m time r sleeps.kept.before border some below
      ∙ sleepers_agree old new old_ok new_ok revised (since m) (time - 1) m r sleeps (time - 1) (omega (arith, first, le, some)) (omega arith)
      ∙ sym (before_is new m time r some)

-- ---- the states of listed modules are kept one by one

-- the states of one module more are kept up to a time
abbrev pub kept_now : (ℕ → ℕ) → ℕ → ℕ → ℕ → ℕ
kept_now kept m time k = cond (eqb k m) time (kept k)

kept_here : (kept : ℕ → ℕ) (m time k : ℕ) → k ≡ m → kept_now kept m time k ≡ time
kept_here kept m time k same = rw (eq-eqb k m same) refl

kept_there : (kept : ℕ → ℕ) (m time k : ℕ) → k ≢ m → kept_now kept m time k ≡ kept k
kept_there kept m time k other = rw (ne_eqb k m other) refl

-- of the first of some listed modules those that stand and are live have their states kept up to a border; those of others may be kept up to
-- the one before
pub record IsKeeping (old new : Circuit) (run : Outcome) (block time : ℕ) (live : ℕ → Bool) (list : List ModuleId) (count : ℕ) (recorder : RerunRecorder) : Type 0 where
  pub kept : ℕ → ℕ
  pub is : IsRecorder old new run kept time live recorder
  pub quiet : (m : ℕ) → live m ≡ false → kept m ≡ block
  pub either : (m : ℕ) → (kept m ≡ block) ⊎ (kept m ≡ time)
  pub done : (j : ℕ) (d : ModuleId) → j < count → IsSome (module_at new (slice_index_or list j d).0) → live (slice_index_or list j d).0 ≡ true → kept (slice_index_or list j d).0 ≡ time

pub keeping_begins : (old new : Circuit) (run : Outcome) (block time : ℕ) (live : ℕ → Bool) (list : List ModuleId) (recorder : RerunRecorder) → IsRecorder old new run (λ m. block) time live recorder → IsKeeping old new run block time live list 0 recorder
keeping_begins old new run block time live list recorder is = record {
  kept = λ m. block;
  is = is;
  quiet = λ m off. refl;
  either = λ m. inl refl;
  done = λ j d low. absurd (let no : ⊥ = omega (arith, low) in no);
}

module _ (old new : Circuit) (run : Outcome) (block time : ℕ) (live : ℕ → Bool) (list : List ModuleId) (i : ℕ) (d : ModuleId) (recorder : RerunRecorder) (within : i < length list) (is : IsKeeping old new run block time live list i recorder) where
  at_last : (j : ℕ) (e : ModuleId) → j ≡ i → (slice_index_or list j e).0 ≡ (slice_index_or list i d).0
  at_last j e last = ap (λ (x : ModuleId). x.0) (ap (λ n. slice_index_or list n e) last ∙ sym (get_or_default list i d e within))

  -- one that doesn't stand or isn't live
  pub keeping_same : (IsSome (module_at new (slice_index_or list i d).0) → live (slice_index_or list i d).0 ≡ true → ⊥) → IsKeeping old new run block time live list (i + 1) recorder
  keeping_same not = record {
    kept = is.kept;
    is = is.is;
    quiet = is.quiet;
    either = is.either;
    done = λ j e low stands on. elim (cases_eq j i) as (λ _. is.kept (slice_index_or list j e).0 ≡ time) [
      | inl last ↦ absurd (not (subst (λ k. IsSome (module_at new k)) (at_last j e last) stands) (sym (ap live (at_last j e last)) ∙ on))
      | inr other ↦ is.done j e (omega (arith, low, other)) stands on
    ];
  }

  -- one whose state is kept
  module _ (next : IsNextBorder new block time) (stands : IsSome (module_at new (slice_index_or list i d).0)) (on : live (slice_index_or list i d).0 ≡ true) where
    border : IsNextBorder new (is.kept (slice_index_or list i d).0) time ⊎ (is.kept (slice_index_or list i d).0 ≡ time)
    border = elim (is.either (slice_index_or list i d).0) as (λ _. IsNextBorder new (is.kept (slice_index_or list i d).0) time ⊎ (is.kept (slice_index_or list i d).0 ≡ time)) [
      | inl before ↦ inl (subst (λ b. IsNextBorder new b time) (sym before) next)
      | inr already ↦ inr already
    ]

    pub keeping_can : CanKeep recorder (slice_index_or list i d).0 time
    keeping_can = can_keep old new run is.kept time live recorder is.is (slice_index_or list i d).0 time stands on border next.below

    pub keeping_state : (memory : Memory) → ((r : ModuleRecord) → module_at new (slice_index_or list i d).0 ≡ Some r → memory ≡ state_before new (slice_index_or list i d).0 r time)
        → KeepsState new live is.kept (kept_now is.kept (slice_index_or list i d).0 time) (slice_index_or list i d).0 time memory
    keeping_state memory state = record {
      part = (standing (module_at new (slice_index_or list i d).0) stands).0;
      stands = (standing (module_at new (slice_index_or list i d).0) stands).1;
      on = on;
      state = state (standing (module_at new (slice_index_or list i d).0) stands).0 (standing (module_at new (slice_index_or list i d).0) stands).1;
      border = border;
      below = next.below;
      here = kept_here is.kept (slice_index_or list i d).0 time (slice_index_or list i d).0 refl;
      others = λ k other. kept_there is.kept (slice_index_or list i d).0 time k other;
    }

    pub keeping_more : (after : RerunRecorder) → IsRecorder old new run (kept_now is.kept (slice_index_or list i d).0 time) time live after → IsKeeping old new run block time live list (i + 1) after
    keeping_more after now = record {
      kept = kept_now is.kept (slice_index_or list i d).0 time;
      is = now;
      quiet = λ k off. kept_there is.kept (slice_index_or list i d).0 time k (λ same. both_ways (live k) off (ap live same ∙ on)) ∙ is.quiet k off;
      either = λ k. elim (cases_eq k (slice_index_or list i d).0) as (λ _. (kept_now is.kept (slice_index_or list i d).0 time k ≡ block) ⊎ (kept_now is.kept (slice_index_or list i d).0 time k ≡ time)) [
        | inl same ↦ inr (kept_here is.kept (slice_index_or list i d).0 time k same)
        | inr other ↦ elim (is.either k) as (λ _. (kept_now is.kept (slice_index_or list i d).0 time k ≡ block) ⊎ (kept_now is.kept (slice_index_or list i d).0 time k ≡ time)) [
          | inl before ↦ inl (kept_there is.kept (slice_index_or list i d).0 time k other ∙ before)
          | inr already ↦ inr (kept_there is.kept (slice_index_or list i d).0 time k other ∙ already)
        ]
      ];
      done = λ j e low there lives. elim (cases_eq (slice_index_or list j e).0 (slice_index_or list i d).0) as (λ _. kept_now is.kept (slice_index_or list i d).0 time (slice_index_or list j e).0 ≡ time) [
        | inl same ↦ kept_here is.kept (slice_index_or list i d).0 time (slice_index_or list j e).0 same
        | inr other ↦
            let before : j ≢ i = λ last. other (at_last j e last) in
            kept_there is.kept (slice_index_or list i d).0 time (slice_index_or list j e).0 other ∙ is.done j e (omega (arith, low, before)) there lives
      ];
    }
