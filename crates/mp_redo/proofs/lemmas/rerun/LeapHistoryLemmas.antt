-- The recorder of windows in which nobody is active.
use Rattle.std.proofs.Common.{◌≡◌, ℕ, zero, suc, ◌+◌, ◌-◌, ◌%◌, ◌<◌, ◌≤◌, Bool, true, [], IsSome, refl, sym, subst, arith, inl, inr}
use Rattle.std.proofs.lemmas.Bool.{cases_eq, cases_lt}
use Rattle.mp_records.specs.declared.ids.ModuleId.{ModuleId}
use Rattle.mp_netlist.specs.Circuit.{Circuit, IsCircuit, module_at}
use Rattle.mp_netlist.specs.Limits.{checkpoint_units}
use Rattle.mp_netlist.proofs.LimitLemmas.{units_positive}
use Rattle.mp_partition.specs.runs.Outcomes.{Outcome}
use Rattle.mp_partition.specs.runs.Runs.{IsRun}
use Rattle.mp_partition.proofs.lemmas.runs.MarkLemmas.{none_in}
use Rattle.mp_depend.specs.work.Revisions.{IsRevision}
use Rattle.mp_depend.specs.work.Work.{block_of, window_of, window_end, IsWindow}
use Rattle.mp_partition.proofs.lemmas.runs.MultipleLemmas.{rest_le, whole_rest, whole_from}
use Rattle.mp_depend.proofs.lemmas.work.PartLemmas.{next_begins}
use Rattle.mp_depend.proofs.lemmas.work.WindowLemmas.{window_within, windows_apart, same_block}
use Rattle.mp_active.specs.agreement.Sleeping.{AreSleeping}
use Rattle.mp_depend.specs.declared.recording.rerun_recorder.RerunRecorder.{RerunRecorder}
use Rattle.mp_depend.specs.recording.Recorders.{IsRecorder}
use Rattle.mp_depend.specs.recording.Live.{AreAtWork, JoinInWindow}
use Rattle.mp_depend.proofs.lemmas.recording.HistoryLemmas.{kept_all, idle_history}
use Rattle.mp_redo.proofs.lemmas.rerun.KeepingLemmas.{next_border, sleepers_kept}
use Rattle.mp_redo.proofs.lemmas.rerun.WindowLemmas.{border_block, inner_block}

-- ---- blocks

-- a later time isn't in an earlier block
pub block_later : (horizon t later : ℕ) → t ≤ later → block_of horizon t ≤ block_of horizon later
block_later horizon t later le =
    let units = checkpoint_units horizon in
    let positive = units_positive horizon in
    let low = rest_le t units in
    whole_from units (block_of horizon t) later positive (whole_rest t units positive) (omega (arith, low, le))

-- ---- the recorder goes on, window by window

module _ (old n : Circuit) (old_ok : IsCircuit old) (ok : IsCircuit n) (revised : IsRevision old n) (run : Outcome) (is_run : IsRun old run) where
  module _ (active : ℕ → Bool) (since : ℕ → ℕ) (from to : ℕ) (some : 0 < from) (inside : to ≤ n.horizon) (ends : to < n.horizon → window_of n to ≡ to)
      (early : (m : ℕ) → since m < block_of n.horizon (from - 1) + 1) (sleeping : (t : ℕ) → from ≤ t → t < to → AreSleeping old n active since (t - 1))
      (works : (c u : ℕ) → block_of n.horizon (from - 1) ≤ c → c ≤ to → u ≤ to → AreAtWork old n c u active) (not_live : (m : ℕ) → IsSome (module_at n m) → active m ≡ true → ⊥) (recorder : RerunRecorder) where
    -- before a time at which a window begins or ends
    abbrev IsIdleAt : ℕ → Type 0
    IsIdleAt t = IsRecorder old n run (λ m. block_of n.horizon (t - 1)) t active recorder

    -- in the block of the time
    crossed : (t : ℕ) → from ≤ t → t < to → IsIdleAt t → IsRecorder old n run (λ m. block_of n.horizon t) t active recorder
    crossed t low less is = elim (cases_eq (t % checkpoint_units n.horizon) 0) as (λ _. IsRecorder old n run (λ m. block_of n.horizon t) t active recorder) [
      | inl border ↦
          let below : t < n.horizon = omega (arith, less, inside) in
          let first : 0 < t = omega (arith, low, some) in
          let begins = border_block n.horizon t border in
          let reach = block_later n.horizon (from - 1) (t - 1) (omega (arith, low)) in
          let least = rest_le (t - 1) (checkpoint_units n.horizon) in
          let states = sleepers_kept old n old_ok ok revised run is_run active since (block_of n.horizon (from - 1)) t border first below (omega (arith, reach, least)) early (sleeping t low less) in
          subst (λ b. IsRecorder old n run (λ m. b) t active recorder) (sym begins)
          (kept_all old n run (λ m. block_of n.horizon (t - 1)) t active recorder is (block_of n.horizon (t - 1)) t (next_border n t border first below) states
          (λ m off. refl) (λ m stands on. absurd (not_live m stands on)))
      | inr other ↦
          let same = inner_block n.horizon t other (omega (arith, low, some)) in
          subst (λ b. IsRecorder old n run (λ m. b) t active recorder) same is
    ]

    one_window : (t end : ℕ) → from ≤ t → t < to → end ≤ to → IsWindow n t end → IsIdleAt t → IsIdleAt end
    one_window t end low less reach window is =
        let within = window_within n ok t end window in
        subst (λ b. IsRecorder old n run (λ m. b) end active recorder) (sym (same_block n.horizon t end within.1 within.2))
        (idle_history old n run (block_of n.horizon t) t end active recorder none (crossed t low less is))
      where
        none : JoinInWindow old n (block_of n.horizon t) t end [] active active
        none =
            let within = window_within n ok t end window in
            let first = block_later n.horizon (from - 1) t (omega (arith, low)) in
            let high = within.0 in
            record {
              form = ok;
              window = window;
              block = refl;
              become = record {
                stand = λ m has. absurd (none_in (let id : ModuleId = record { 0 = m } in id) has);
                stay = λ m on. on;
                join = λ m has. absurd (none_in (let id : ModuleId = record { 0 = m } in id) has);
                others = λ m not. refl;
              };
              before = works (block_of n.horizon t) t first (omega (arith, high, less)) (omega (arith, less));
              after = works (block_of n.horizon t) end first (omega (arith, high, less)) reach;
            }

    windows_on : (fuel t : ℕ) → to ≤ t + fuel → from ≤ t → t ≤ to → (t < to → window_of n t ≡ t) → IsIdleAt t → IsIdleAt to
    windows_on zero t enough low high begins is = let e : t ≡ to = omega (arith, enough, high) in subst IsIdleAt e is
    windows_on (suc fuel) t enough low high begins is = elim (cases_lt t to) as (λ _. IsIdleAt to) [
      | inl less ↦
          let end = window_end n t in
          let window : IsWindow n t end = record { below = omega (arith, less, inside); begins = begins less; ends = refl } in
          let later = (window_within n ok t end window).1 in
          let reach = within_windows t less window in
          windows_on fuel end (omega (arith, enough, later)) (omega (arith, low, later)) reach (λ more. begun t window (omega (arith, more, inside))) (one_window t end low less reach window is)
      | inr not ↦ let e : t ≡ to = omega (arith, not, high) in subst IsIdleAt e is
    ]
      where
        within_windows : (t : ℕ) → t < to → IsWindow n t (window_end n t) → window_end n t ≤ to
        within_windows t less window = elim (cases_lt to n.horizon) as (λ _. window_end n t ≤ to) [
          | inl below ↦ windows_apart n ok t (window_end n t) to (window_end n to) window (record { below = below; begins = ends below; ends = refl }) less
          | inr past ↦ omega (arith, past)
        ]

        begun : (t : ℕ) → IsWindow n t (window_end n t) → window_end n t < n.horizon → window_of n (window_end n t) ≡ window_end n t
        begun t window below = elim (next_begins n ok t (window_end n t) window) as (λ _. window_of n (window_end n t) ≡ window_end n t) [
          | inl last ↦ let no : ⊥ = omega (arith, last, below) in absurd no
          | inr is ↦ is
        ]

    pub history_on : from ≤ to → window_of n from ≡ from → IsIdleAt from → IsIdleAt to
    history_on later begins is = windows_on (to - from) from (omega (arith, later)) (omega arith) later (λ less. begins) is
