-- The recorder of a re-evaluation that is settled goes up to the horizon.
use Rattle.std.proofs.Common.{◌≡◌, ℕ, ◌+◌, ◌-◌, ◌<◌, ◌≤◌, sym, subst, arith, inl, inr}
use Rattle.std.proofs.lemmas.Bool.{cases_lt}
use Rattle.mp_netlist.specs.Circuit.{Circuit, IsCircuit, module_at}
use Rattle.mp_partition.specs.runs.Outcomes.{Outcome}
use Rattle.mp_partition.specs.runs.Runs.{IsRun}
use Rattle.mp_depend.specs.work.Revisions.{IsRevision}
use Rattle.mp_depend.specs.work.Work.{block_of}
use Rattle.mp_active.specs.agreement.Reading.{QuietWhereAlike, SleepersReadAlike}
use Rattle.mp_active.specs.agreement.Resting.{SleepersRest}
use Rattle.mp_active.specs.agreement.Sleeping.{AreSleeping, SleepersAgree, SleepersSleepOn}
use Rattle.mp_active.specs.agreement.Sources.{WiresAgree}
use Rattle.mp_active.specs.compare.OldRuns.{RunsAreOld}
use Rattle.mp_depend.specs.recording.Recorders.{IsRecorder}
use Rattle.mp_depend.specs.recording.Live.{AreAtWork}
use Rattle.mp_redo.specs.declared.rerun.rerun.Rerun.{Rerun}
use Rattle.mp_redo.specs.rerun.Reruns.{active_of}
use Rattle.mp_redo.specs.rerun.Settling.{HasEnded, IsSettled}
use Rattle.mp_redo.proofs.lemmas.rerun.LeapHistoryLemmas.{history_on}
use Rattle.mp_redo.proofs.lemmas.rerun.SettlingLemmas.{sleeping_at}
use Rattle.mp_redo.proofs.lemmas.rerun.StandingLemmas.{standing}

module _ (old n : Circuit) (old_ok : IsCircuit old) (ok : IsCircuit n) (revised : IsRevision old n) (run : Outcome) (is_run : IsRun old run) (runs : RunsAreOld) (readers : SleepersReadAlike)
    (wires : WiresAgree) (alike : QuietWhereAlike) (agree : SleepersAgree) (sleep_on : SleepersSleepOn) (rest : SleepersRest) (end : ℕ) (s : Rerun) (over : HasEnded old n run end s) where
  pub before : end - 1 < n.horizon
  before = let some = over.some in let most = over.within in omega (arith, some, most)

  next : end - 1 + 1 ≡ end
  next = let some = over.some in omega (arith, some)

  -- it is settled from the end on
  pub settled_after : end - 1 + 1 < n.horizon → IsSettled n run (end - 1 + 1) s
  settled_after below = subst (λ u. u < n.horizon → IsSettled n run u s) (sym next) over.settled below

  pub sleeping_after : (u : ℕ) → end - 1 ≤ u → u < n.horizon → AreSleeping old n (active_of s) over.at.is.since u
  sleeping_after u low below = sleeping_at old n old_ok ok revised run over.at.is.numbering over.at.is.since (end - 1) before s over.at.is.is settled_after is_run runs readers wires alike sleep_on u low below

  works : IsSettled n run end s → (c u : ℕ) → block_of n.horizon (end - 1) ≤ c → c ≤ n.horizon → u ≤ n.horizon → AreAtWork old n c u (active_of s)
  works it c u after inside low = record {
    works = λ m stands on. absurd (it.nobody m stands on);
    rests = λ m stands off working.
        let r = standing (module_at n m) stands in
        let first = over.at.is.early m in
        let some = before in
        rest old n old_ok ok revised (over.at.is.since m) (n.horizon - 1) m c u r.0 (sleeping_after (n.horizon - 1) (omega (arith, some)) (omega (arith, some)) m r.0 r.1 off)
        (omega (arith, first, after)) (omega (arith, inside, some)) (omega (arith, low, some)) working;
  }

  first : IsRecorder old n run (λ m. block_of n.horizon (end - 1)) end (active_of s) s.recorder
  first = subst (λ u. IsRecorder old n run (λ m. block_of n.horizon (end - 1)) u (active_of s) s.recorder) next over.at.recorder

  pub history_left : IsRecorder old n run (λ m. block_of n.horizon (n.horizon - 1)) n.horizon (active_of s) s.recorder
  history_left = elim (cases_lt end n.horizon) as (λ _. IsRecorder old n run (λ m. block_of n.horizon (n.horizon - 1)) n.horizon (active_of s) s.recorder) [
    | inl below ↦
        let it = over.settled below in
        let some = over.some in
        history_on old n old_ok ok revised run is_run (active_of s) over.at.is.since end n.horizon some (omega arith) (λ low. let no : ⊥ = omega (arith, low) in absurd no) over.at.is.early
        (λ u low less. sleeping_after (u - 1) (omega (arith, low, some)) (omega (arith, less))) (works it) it.nobody s.recorder (omega (arith, below)) (over.begins below) first
    | inr past ↦
        let most = over.within in
        let e : end ≡ n.horizon = omega (arith, past, most) in
        subst (λ u. IsRecorder old n run (λ m. block_of n.horizon (u - 1)) u (active_of s) s.recorder) e first
  ]
