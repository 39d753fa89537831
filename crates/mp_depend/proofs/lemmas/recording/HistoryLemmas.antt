-- What follows of what is kept.
use Rattle.std.proofs.Common.{◌≡◌, ◌⊎◌, ℕ, ◌+◌, ◌<◌, ◌≤◌, ◌^◌, Bool, true, false, List, [], Option, Some, None, IsSome, refl, sym, subst, ◌∙◌, arith, inl, inr}
use Rattle.mp_records.specs.declared.ids.ModuleId.{ModuleId}
use Rattle.mp_netlist.specs.Circuit.{Circuit, module_at}
use Rattle.mp_partition.specs.runs.Checkpoints.{IsBorder}
use Rattle.mp_partition.specs.runs.Outcomes.{Outcome}
use Rattle.mp_partition.proofs.lemmas.runs.MarkLemmas.{none_in}
use Rattle.mp_depend.specs.declared.work.work_span.WorkSpan.{WorkSpan}
use Rattle.mp_depend.specs.work.WorkSpans.{AreWorkSpansTo}
use Rattle.mp_depend.specs.declared.recording.rerun_recorder.RerunRecorder.{RerunRecorder}
use Rattle.mp_depend.specs.declared.recording.checkpoint_overlay.CheckpointOverlay.{CheckpointOverlay}
use Rattle.mp_depend.specs.recording.Recorders.{IsRecorder, IsSound, IsOver, CanKeep, CanLeave}
use Rattle.mp_depend.specs.recording.Keeping.{IsOverlayAt, IsNextBorder, AreOverlays, AreOldStates}
use Rattle.mp_depend.specs.recording.Overlays.{overlay_at}
use Rattle.mp_depend.specs.recording.Live.{AreOpen, JoinInWindow}
use Rattle.mp_depend.proofs.lemmas.recording.JoinWorkLemmas.{joined_work_spans}
use Rattle.mp_depend.proofs.lemmas.recording.KeepLemmas.{own_later, all_kept}
use Rattle.mp_depend.proofs.lemmas.recording.OpenedLemmas.{opened_none}

standing : {A : Type 0} (slot : Option A) → IsSome slot → (x : A) × (slot ≡ Some x)
standing None some = let none : ⊥ = cc in absurd none
standing (Some x) some = (x, refl)

-- ---- who is live is known by a function that has its values

pub overlays_alike : (new : Circuit) (run : Outcome) (kept : ℕ → ℕ) (live now : ℕ → Bool) (overlays : List CheckpointOverlay) → ((m : ℕ) → now m ≡ live m) → AreOverlays new run kept live overlays → AreOverlays new run kept now overlays
overlays_alike new run kept live now overlays same are = record {
  places = are.places;
  each = λ m r stands. subst (λ b. IsOverlayAt new run (kept m) m r b (overlay_at overlays m)) (sym (same m)) (are.each m r stands);
}

pub open_alike : (new : Circuit) (t : ℕ) (live now : ℕ → Bool) (places : List (Option ℕ)) (work_spans : List WorkSpan) → ((m : ℕ) → now m ≡ live m) → AreOpen new t live places work_spans → AreOpen new t now places work_spans
open_alike new t live now places work_spans same are = record {
  count = are.count;
  opened = λ m stands on. are.opened m stands (sym (same m) ∙ on);
  closed = λ m off. are.closed m (sym (same m) ∙ off);
  over = λ k within later. let was = are.over k within later in (same _ ∙ was.0, was.1, was.2);
}

pub history_alike : (old new : Circuit) (run : Outcome) (kept : ℕ → ℕ) (t : ℕ) (live now : ℕ → Bool) (recorder : RerunRecorder) → ((m : ℕ) → now m ≡ live m) → IsRecorder old new run kept t live recorder → IsRecorder old new run kept t now recorder
history_alike old new run kept t live now recorder same is = record {
  overlays = overlays_alike new run kept live now recorder.overlays.items same is.overlays;
  worked = is.worked;
  opened = open_alike new t live now recorder.places.items recorder.work_spans.items same is.opened;
  listed = λ m stands on. is.listed m stands (sym (same m) ∙ on);
}

-- ---- what its methods ask for

module _ (old new : Circuit) (run : Outcome) (kept : ℕ → ℕ) (t : ℕ) (live : ℕ → Bool) (recorder : RerunRecorder) (is : IsRecorder old new run kept t live recorder) where
  pub history_sound : IsSound new recorder
  history_sound = record {
    overlays = is.overlays.places;
    places = is.opened.count;
    order = λ m stands. let r = standing (module_at new m) stands in (is.overlays.each m r.0 r.1).order;
  }

  -- the state of a live module before a border that is the next one, or that up to which its states are kept
  pub can_keep : (m time : ℕ) → IsSome (module_at new m) → live m ≡ true → IsNextBorder new (kept m) time ⊎ (kept m ≡ time) → time < new.horizon → CanKeep recorder m time
  can_keep m time stands on border below =
      let r = standing (module_at new m) stands in
      own_later (overlay_at recorder.overlays.items m) (kept m + 1) (time + 1) new.horizon (time + 1) (low border) (omega (arith, below)) ((is.overlays.each m r.0 r.1).ready on)
    where
      low : IsNextBorder new (kept m) time ⊎ (kept m ≡ time) → kept m + 1 ≤ time + 1
      low (inl next) = let later = next.later in omega (arith, later)
      low (inr same) = omega (arith, same)

  pub can_leave : (m time : ℕ) → IsSome (module_at new m) → live m ≡ true → kept m ≡ time → time < new.horizon → time + 1 < 2 ^ 32 → CanLeave recorder m time
  can_leave m time stands on same below last =
      let found = is.opened.opened m stands on in
      record {
        keeps = can_keep m time stands on (inr same) below;
        last = last;
        place = found.0;
        at = found.1;
        within = found.2.within;
      }

  -- at a border the states of live modules have been kept, and those of the others are the old run's
  pub kept_all : (block time : ℕ) → IsNextBorder new block time → AreOldStates new run time live → ((m : ℕ) → live m ≡ false → kept m ≡ block) → ((m : ℕ) → IsSome (module_at new m) → live m ≡ true → kept m ≡ time)
      → IsRecorder old new run (λ m. time) t live recorder
  kept_all block time next states quiet done = record {
    overlays = all_kept new run block time kept live recorder.overlays.items next states quiet done is.overlays;
    worked = is.worked;
    opened = is.opened;
    listed = is.listed;
  }

  -- up to the last border
  pub history_over : ((m b : ℕ) → IsBorder new.horizon b → b < new.horizon → b ≤ kept m) → IsOver new run recorder
  history_over last = record {
    places = is.overlays.places;
    each = λ m r stands.
        let overlay = is.overlays.each m r stands in
        record { order = overlay.order; states = λ b border less. overlay.right b border (last m b border less) less };
  }

-- ---- nobody joins in a window

pub idle_history : (old new : Circuit) (run : Outcome) (block from to : ℕ) (live : ℕ → Bool) (recorder : RerunRecorder) → JoinInWindow old new block from to [] live live → IsRecorder old new run (λ m. block) from live recorder
    → IsRecorder old new run (λ m. block) to live recorder
idle_history old new run block from to live recorder joins is = record { overlays = is.overlays; worked = work.0; opened = work.1; listed = is.listed }
  where
    work : AreWorkSpansTo old new to recorder.work_spans.items × AreOpen new to live recorder.places.items recorder.work_spans.items
    work = joined_work_spans old new from to block [] live live recorder.places.items recorder.places.items recorder.work_spans.items recorder.work_spans.items joins is.opened is.worked
        (opened_none new block to live recorder.places.items recorder.work_spans.items) (λ m has. absurd (none_in (let id : ModuleId = record { 0 = m } in id) has))
