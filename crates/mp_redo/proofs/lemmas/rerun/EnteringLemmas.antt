-- Who enters a gate works then.
use Rattle.std.proofs.Common.{◌≡◌, ℕ, ◌+◌, ◌-◌, ◌<◌, ◌≤◌, Bool, true, false, List, IsSome, length, slice_index_or, refl, sym, ap, subst, ◌∙◌, arith, inl, inr}
use Rattle.std.specs.List.{Contains}
use Rattle.std.proofs.lemmas.Bool.{cases_Bool, cases_eq, both_ways}
use Rattle.std.proofs.lemmas.List.Elements.{All-weaker}
use Rattle.mp_records.specs.declared.ids.ModuleId.{ModuleId}
use Rattle.mp_netlist.specs.Circuit.{Circuit, IsCircuit, module_at}
use Rattle.mp_netlist.specs.Limits.{checkpoint_units}
use Rattle.mp_partition.specs.runs.Outcomes.{Outcome}
use Rattle.mp_phase.specs.Allowed.{IsAllowed, AreAllowed}
use Rattle.mp_depend.specs.work.Work.{block_of, IsWindow, IsEntry}
use Rattle.mp_depend.proofs.lemmas.work.WindowLemmas.{window_within, in_block}
use Rattle.mp_depend.specs.recording.Live.{AreAtWork, IsListed}
use Rattle.mp_redo.specs.declared.rerun.join.Join.{Join}
use Rattle.mp_redo.specs.declared.rerun.rerun.Rerun.{Rerun}
use Rattle.mp_redo.specs.rerun.Entering.{AllWork, AllTasksWork, Enters, ActiveHavePassed}
use Rattle.mp_redo.specs.rerun.Joining.{AreJoining}
use Rattle.mp_redo.specs.rerun.Reruns.{active_of}
use Rattle.mp_redo.specs.rerun.Windows.{IsInWindow, IsBegun}

-- who is at work before a window works in it
pub window_work : (old new : Circuit) (live : ℕ → Bool) (time end m : ℕ) → IsWindow new time end → AreAtWork old new (block_of new.horizon time) time live → IsSome (module_at new m) → live m ≡ true
    → IsEntry old new m time end
window_work old new live time end m window are stands on = record { start = time; window = window; works = inl (are.works m stands on, refl) }

-- who joins in a unit of a window, and wasn't active in it before, works from the block's begin to the window's end
pub joining_work : (old new : Circuit) → IsCircuit new → (run : Outcome) (from time : ℕ) (s : Rerun) → 0 < time → IsInWindow old new run from (time - 1) s → time < s.window_end → (joining : List ModuleId)
    → AreJoining old new (active_of s) time joining → AllWork old new (block_of new.horizon time) s.window_end joining
joining_work old new ok run from time s some is below joining joins m has = record {
  start = from;
  window = is.window;
  works = inr (
    is.work.rests m (joins.stand m has) slept,
    (time, first, below, joins.apart m has),
    in_block new.horizon from time (omega (arith, low, first)) (omega (arith, below, high)),
  );
}
  where
    within : (block_of new.horizon from ≤ from) × (from < s.window_end) × (s.window_end ≤ block_of new.horizon from + checkpoint_units new.horizon)
    within = window_within new ok from s.window_end is.window

    low : block_of new.horizon from ≤ from
    low = within.0

    high : s.window_end ≤ block_of new.horizon from + checkpoint_units new.horizon
    high = within.2

    first : from ≤ time
    first = let begun = is.begun in omega (arith, begun, some)

    slept : is.live m ≡ false
    slept = elim (cases_Bool (is.live m)) as (λ _. is.live m ≡ false) [
      | inl on ↦ let no : ⊥ = both_ways (active_of s m) (joins.asleep m has) (is.joined.stay m on) in absurd no
      | inr off ↦ off
    ]

-- a task whose module works may let it enter where that may
pub task_allowed : (old new : Circuit) (may : ℕ → ℕ → ℕ → Bool) → IsAllowed (IsEntry old new) may → (task : Join) → IsEntry old new task.«module».0 task.from task.window_end → IsAllowed (Enters task) may
task_allowed old new may allowed task works m from to enters =
    subst (λ k. may k from to ≡ true) (sym enters.0)
    (subst (λ k. may task.«module».0 k to ≡ true) (sym enters.1)
    (subst (λ k. may task.«module».0 task.from k ≡ true) (sym enters.2) (allowed task.«module».0 task.from task.window_end works)))

pub tasks_allowed : (old new : Circuit) (may : ℕ → ℕ → ℕ → Bool) → IsAllowed (IsEntry old new) may → (tasks : List Join) → AllTasksWork old new tasks → AreAllowed Enters may tasks
tasks_allowed old new may allowed tasks all =
    All-weaker (λ (task : Join). IsEntry old new task.«module».0 task.from task.window_end) (λ (task : Join). IsAllowed (Enters task) may) (task_allowed old new may allowed) tasks all

-- of the first modules of a list each active one that stands has passed
abbrev pub FirstHavePassed : Circuit → (ℕ → Bool) → (ℕ → ℕ → ℕ → Bool) → ℕ → ℕ → List ModuleId → ℕ → Type 0
FirstHavePassed new active passed from to list count = (k : ℕ) (d : ModuleId) → k < count → IsSome (module_at new (slice_index_or list k d).0) → active (slice_index_or list k d).0 ≡ true
    → passed (slice_index_or list k d).0 from to ≡ true

module _ (new : Circuit) (active : ℕ → Bool) (passed : ℕ → ℕ → ℕ → Bool) (from to : ℕ) (list : List ModuleId) (count : ℕ) (first : FirstHavePassed new active passed from to list count) where
  pub passed_more : (id : ModuleId) → ((d : ModuleId) → slice_index_or list count d ≡ id) → (IsSome (module_at new id.0) → active id.0 ≡ true → passed id.0 from to ≡ true)
      → FirstHavePassed new active passed from to list (count + 1)
  passed_more id at one k d low stands on = elim (cases_eq k count) as (λ _. passed (slice_index_or list k d).0 from to ≡ true) [
    | inl same ↦
        let here : slice_index_or list k d ≡ id = ap (λ (j : ℕ). slice_index_or list j d) same ∙ at d in
        subst (λ (x : ModuleId). passed x.0 from to ≡ true) (sym here) (one (subst (λ (x : ModuleId). IsSome (module_at new x.0)) here stands) (subst (λ (x : ModuleId). active x.0 ≡ true) here on))
    | inr other ↦ first k d (omega (arith, low, other)) stands on
  ]

  pub passed_all : length list ≤ count → IsListed new active list → ActiveHavePassed new active passed from to
  passed_all all listed m stands on =
      let has : Contains list (record { 0 = m }) = listed m stands on in
      let low = has.1 in
      subst (λ (x : ModuleId). passed x.0 from to ≡ true) has.2
      (first has.0 (record { 0 = m }) (omega (arith, low, all)) (subst (λ (x : ModuleId). IsSome (module_at new x.0)) (sym has.2) stands) (subst (λ (x : ModuleId). active x.0 ≡ true) (sym has.2) on))

-- those that are active in the first window are listed
pub first_listed : (old new : Circuit) (run : Outcome) (s : Rerun) → IsBegun old new run s → IsListed new (active_of s) s.recorder.live.items
first_listed old new run s begun m stands on = begun.is.recorder.listed m stands live
  where
    live : begun.is.live m ≡ true
    live = elim (cases_Bool (begun.is.live m)) as (λ _. begun.is.live m ≡ true) [
      | inl is ↦ is
      | inr off ↦ absurd (begun.is.work.rests m stands off (begun.work.works m stands on))
    ]
