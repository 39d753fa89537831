-- Where nobody is active, and nothing happens up to a window's begin, that is reached at once.
use Rattle.std.proofs.Common.{◌≡◌, ℕ, ◌+◌, ◌-◌, ◌<◌, ◌≤◌, [], subst, arith}
use Rattle.mp_netlist.specs.Circuit.{Circuit, IsCircuit}
use Rattle.mp_partition.specs.runs.Outcomes.{Outcome}
use Rattle.mp_partition.specs.runs.Runs.{IsRun}
use Rattle.mp_depend.specs.work.Revisions.{IsRevision}
use Rattle.mp_depend.specs.work.Work.{block_of, window_of}
use Rattle.mp_depend.specs.recording.Recorders.{IsRecorder}
use Rattle.mp_depend.specs.recording.Live.{AreAtWork}
use Rattle.mp_redo.specs.declared.rerun.rerun.Rerun.{Rerun}
use Rattle.mp_redo.specs.rerun.Reruns.{IsRerunBy, active_of}
use Rattle.mp_redo.specs.rerun.Windows.{IsAtWindow}
use Rattle.mp_redo.proofs.lemmas.rerun.KeptLemmas.{rerun_renewed}
use Rattle.mp_redo.proofs.lemmas.rerun.LeapLemmas.{LeapLaws, CanLeap, units_to, nobody_works, not_live}
use Rattle.mp_redo.proofs.lemmas.rerun.LeapHistoryLemmas.{block_later, history_on}

-- when it is looked ahead again doesn't matter
pub look_later : (old n : Circuit) (run : Outcome) (c t look : ℕ) (s : Rerun) → IsAtWindow old n run c t s → IsAtWindow old n run c t (record s { look_at = look })
look_later old n run c t look s at = record {
  is = rerun_renewed old n run c c t s s.activity.joined s.recorder s.window_end look (omega arith) at.is;
  unseen = at.unseen;
  touched = at.touched;
  none = at.none;
  work = at.work;
  recorder = at.recorder;
}

module _ (old n : Circuit) (old_ok : IsCircuit old) (ok : IsCircuit n) (revised : IsRevision old n) (run : Outcome) (is_run : IsRun old run) (laws : LeapLaws)
    (from time to : ℕ) (some : 0 < from) (later : from ≤ to) (soon : to ≤ time) (within : time ≤ n.horizon) (s : Rerun) (can : CanLeap time s) (nobody : s.recorder.live.items ≡ [])
    (at : IsAtWindow old n run (block_of n.horizon (from - 1)) (from - 1) s) where
  reached : (u : ℕ) → from ≤ u + 1 → u < time → IsRerunBy old n run at.is.numbering at.is.since u s
  reached u low early = units_to old n old_ok ok revised run is_run laws at.is.numbering at.is.since time within s can (from - 1) u (omega (arith, low)) early at.is.is

  last : IsRerunBy old n run at.is.numbering at.is.since (to - 1) s
  last = reached (to - 1) (omega (arith, some, later)) (omega (arith, some, later, soon))

  works : (c u : ℕ) → block_of n.horizon (from - 1) ≤ c → c ≤ to → u ≤ to → AreAtWork old n c u (active_of s)
  works c u after inside low =
      nobody_works old n old_ok ok revised run is_run laws at.is.numbering at.is.since time within s can (block_of n.horizon (from - 1)) (to - 1) last at.is.early at.recorder.listed nobody
      c u after (omega (arith, inside, some, later)) (omega (arith, low, some, later))

  kept : window_of n from ≡ from → (to < n.horizon → window_of n to ≡ to) → IsRecorder old n run (λ m. block_of n.horizon (to - 1)) to (active_of s) s.recorder
  kept begins ends =
      let e : from - 1 + 1 ≡ from = omega (arith, some) in
      history_on old n old_ok ok revised run is_run (active_of s) at.is.since from to some (omega (arith, soon, within)) ends at.is.early
      (λ t low less. (reached (t - 1) (omega (arith, low, some)) (omega (arith, less, soon))).followed.sleeping) works
      (not_live old n old_ok ok revised run is_run laws at.is.numbering at.is.since time within s can (block_of n.horizon (from - 1)) (to - 1) last at.is.early at.recorder.listed nobody) s.recorder
      later begins (subst (λ u. IsRecorder old n run (λ m. block_of n.horizon (from - 1)) u (active_of s) s.recorder) e at.recorder)

  pub leaps : window_of n from ≡ from → (to < n.horizon → window_of n to ≡ to) → IsAtWindow old n run (block_of n.horizon (to - 1)) (to - 1) s
  leaps begins ends =
      let e : to ≡ to - 1 + 1 = omega (arith, some, later) in
      let block = block_later n.horizon (from - 1) (to - 1) (omega (arith, later)) in
      record {
        is = record {
          numbering = at.is.numbering;
          since = at.is.since;
          is = last;
          early = λ m. let first = at.is.early m in omega (arith, first, block);
        };
        touched = at.touched;
        none = at.none;
        unseen = λ x. let before = at.unseen x in omega (arith, before, some, later);
        work = works (block_of n.horizon (to - 1)) (to - 1 + 1) block (omega (arith, some, later)) (omega (arith, some, later));
        recorder = subst (λ u. IsRecorder old n run (λ m. block_of n.horizon (to - 1)) u (active_of s) s.recorder) e (kept begins ends);
      }
