-- What holds after a unit in which nothing is set, and no module joins.
use Rattle.std.proofs.Common.{◌≡◌, ℕ, ◌+◌, ◌<◌, List, [], sym, ap, subst, ◌∙◌, arith}
use Rattle.mp_netlist.specs.Circuit.{Circuit, IsCircuit}
use Rattle.mp_model.specs.Waves.{level}
use Rattle.mp_kernel.specs.declared.timers.timer_wheel.TimerWheel.{TimerWheel}
use Rattle.mp_kernel.specs.timers.TimerWheels.{never, IsTimerWheel, ComesUp}
use Rattle.mp_simulation.specs.bits.Simulators.{slot_at}
use Rattle.mp_simulation.specs.bits.Simulations.{copy_slot}
use Rattle.mp_kernel.specs.declared.datapath.level_change.LevelChange.{LevelChange}
use Rattle.mp_simulation.specs.units.NetlistSimulations.{IsStill}
use Rattle.mp_partition.specs.runs.Outcomes.{Outcome}
use Rattle.mp_partition.specs.runs.Runs.{IsRun}
use Rattle.mp_simulation.specs.run.Stimuli.{left_of}
use Rattle.mp_depend.specs.work.Revisions.{IsRevision}
use Rattle.mp_active.specs.agreement.Reading.{QuietWhereAlike, SleepersReadAlike}
use Rattle.mp_active.specs.agreement.Sleeping.{SleepersSleepOn}
use Rattle.mp_active.specs.agreement.Sources.{SleepersDriveAlike, WiresAgree}
use Rattle.mp_active.specs.excerpt.Numberings.{Numbering}
use Rattle.mp_active.specs.excerpt.Setting.{AreSetOutside}
use Rattle.mp_active.specs.compare.Comparing.{HasCursors, IsComplete, IsOldRun}
use Rattle.mp_active.proofs.lemmas.compare.OldRunLemmas.{runs_are_old}
use Rattle.mp_active.proofs.lemmas.compare.QuietLemmas.{none_due, cursors_on, complete_on}
use Rattle.mp_redo.specs.declared.rerun.rerun.Rerun.{Rerun}
use Rattle.mp_redo.specs.rerun.Idle.{IsUnset, IsQuiet}
use Rattle.mp_redo.specs.rerun.Joining.{NoneIsApart, HasSet}
use Rattle.mp_redo.specs.rerun.Reruns.{IsFollowed, IsRerunBy, active_of, on_of}
use Rattle.mp_redo.proofs.lemmas.rerun.FindingLemmas.{below_never}
use Rattle.mp_redo.proofs.lemmas.rerun.PassingLemmas.{followed_on}
use Rattle.mp_redo.proofs.lemmas.rerun.QuietLemmas.{NothingIsHeard, none_tracked, none_after, none_apart, none_outside}

-- where it is quiet nothing is heard
pub nothing_heard : (t : ℕ) (s : Rerun) → ComesUp → t + 1 < never → IsTimerWheel t [] s.comparison.timers → IsQuiet (t + 1) s → NothingIsHeard (t + 1) s
nothing_heard t s up low timers quiet = record {
  wires = quiet.wires;
  copies = quiet.copies;
  levels = quiet.levels;
  stimuli = quiet.unset.stimuli;
  pending_outputs = quiet.unset.pending_outputs;
  timers = none_due t s.comparison up timers low quiet.unset.timers;
}

-- and where nothing changes it is quiet
pub still_quiet : (time : ℕ) (s : Rerun) → IsUnset time s → IsStill s.simulation → IsQuiet time s
still_quiet time s unset still = record {
  unset = unset;
  levels = still.changes;
  wires = none_tracked s.comparison time (slot_at s.simulation.bits.simulator 0) still.wires;
  copies = none_tracked s.comparison time (copy_slot s.simulation.bits.copies 0) still.copies;
}

module _ (old n : Circuit) (old_ok : IsCircuit old) (ok : IsCircuit n) (revised : IsRevision old n) (run : Outcome) (is_run : IsRun old run) (numbering : Numbering) (since : ℕ → ℕ) (t : ℕ)
    (below : t + 1 < n.horizon) (s : Rerun) (is : IsRerunBy old n run numbering since t s) (nothing : NothingIsHeard (t + 1) s) where
  low : t + 1 < never
  low = below_never n ok (t + 1) below

  was : IsOldRun (level old) run (t + 1)
  was = let same = revised.horizon in runs_are_old old old_ok run is_run (t + 1) (omega (arith, below, same))

  -- no module that sleeps is apart
  pub quiet_apart : WiresAgree → SleepersReadAlike → QuietWhereAlike → NoneIsApart old n (active_of s) (t + 1)
  quiet_apart wires readers alike = none_apart old n old_ok ok revised run numbering since t s is nothing low was wires readers alike

  -- nothing is to be set
  pub quiet_outside : WiresAgree → SleepersDriveAlike → (bits : List ℕ) (levels : List LevelChange) → bits ≡ [] → levels ≡ [] → AreSetOutside n (active_of s) (on_of s) bits levels (t + 1)
  quiet_outside wires sleepers bits levels no_bits no_levels = none_outside old n old_ok ok revised run numbering since t s is nothing low was wires sleepers bits levels no_bits no_levels

  -- and all else holds one unit later, with a timer wheel of the same times
  pub quiet_followed : WiresAgree → SleepersReadAlike → QuietWhereAlike → SleepersSleepOn → (new : Rerun) (k : TimerWheel) → HasSet s new → new.comparison ≡ record (s.comparison) { timers = k } →
      k.times.items ≡ s.comparison.timers.times.items → IsTimerWheel (t + 1) [] k → new.stimuli ≡ s.stimuli → new.pending_outputs ≡ s.pending_outputs → IsFollowed old n run numbering since (t + 1) new
  quiet_followed wires readers alike sleep_on new k kept comparison times timers stimuli pending_outputs =
      followed_on old n run numbering since t s new kept sleep_on (quiet_apart wires readers alike)
      (subst (HasCursors run (t + 1) []) (sym comparison) (cursors_on run t s.comparison k times is.followed.cursors nothing.timers timers))
      (subst (IsComplete run (t + 1)) (sym comparison) (complete_on run t s.comparison k times is.followed.complete))
      (ap left_of stimuli ∙ sym (none_after (t + 1) (left_of s.stimuli) nothing.stimuli)) (ap left_of pending_outputs ∙ sym (none_after (t + 1) (left_of s.pending_outputs) nothing.pending_outputs)) is.followed
