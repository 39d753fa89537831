-- Units in which nobody is active and nothing happens are passed at once.
use Rattle.std.proofs.Common.{◌≡◌, ◌≢◌, ℕ, zero, suc, ◌+◌, ◌-◌, ◌<◌, ◌≤◌, true, false, List, [], ◌∷◌, IsSome, refl, subst, arith}
use Rattle.std.specs.List.{Contains}
use Rattle.std.proofs.lemmas.Bool.{ne_eqb}
use Rattle.mp_records.specs.declared.ids.ModuleId.{ModuleId}
use Rattle.mp_netlist.specs.Circuit.{Circuit, IsCircuit, module_at}
use Rattle.mp_kernel.specs.timers.TimerWheels.{never, time_of, IsTimerWheel}
use Rattle.mp_simulation.specs.bits.Simulators.{slot_at}
use Rattle.mp_simulation.specs.bits.Simulations.{copy_slot}
use Rattle.mp_kernel.proofs.lemmas.events.EmptyLemmas.{empty_next}
use Rattle.mp_simulation.specs.units.NetlistSimulations.{IsAtRest}
use Rattle.mp_simulation.proofs.lemmas.units.RestingLemmas.{rests_on}
use Rattle.mp_partition.specs.runs.Outcomes.{Outcome}
use Rattle.mp_partition.specs.runs.Runs.{IsRun}
use Rattle.mp_partition.proofs.lemmas.runs.MarkLemmas.{none_in}
use Rattle.mp_simulation.specs.declared.run.stimuli.StimulusChange.{StimulusChange}
use Rattle.mp_simulation.specs.run.Stimuli.{left_of, AreFrom}
use Rattle.mp_depend.specs.work.Revisions.{IsRevision}
use Rattle.mp_active.specs.agreement.Reading.{QuietWhereAlike, SleepersReadAlike}
use Rattle.mp_active.specs.agreement.Resting.{SleepersRest}
use Rattle.mp_active.specs.agreement.Sleeping.{SleepersSleepOn}
use Rattle.mp_active.specs.agreement.Sources.{SleepersDriveAlike, WiresAgree}
use Rattle.mp_depend.specs.recording.Live.{AreAtWork, IsListed}
use Rattle.mp_active.specs.excerpt.Excerpts.{excerpt, ExcerptsAreCircuits}
use Rattle.mp_active.specs.excerpt.Numberings.{Numbering}
use Rattle.mp_active.specs.excerpt.Renumbering.{UnitsShow}
use Rattle.mp_active.specs.excerpt.Setting.{SetsAreStimuli}
use Rattle.mp_active.specs.excerpt.Showing.{ShowingSimulates}
use Rattle.mp_active.proofs.lemmas.compare.QuietLemmas.{later_due}
use Rattle.mp_redo.specs.declared.rerun.rerun.Rerun.{Rerun}
use Rattle.mp_redo.specs.rerun.Idle.{is_due}
use Rattle.mp_redo.specs.rerun.Reruns.{IsRerunBy, active_of, on_of}
use Rattle.mp_redo.proofs.lemmas.rerun.FindingLemmas.{below_never}
use Rattle.mp_redo.proofs.lemmas.rerun.QuietLemmas.{NothingIsHeard, none_tracked}
use Rattle.mp_redo.proofs.lemmas.rerun.IdleLemmas.{quiet_outside, quiet_followed}
use Rattle.mp_redo.proofs.lemmas.rerun.StandingLemmas.{standing}

-- the laws that are needed
pub record LeapLaws : Type 0 where
  pub wires : WiresAgree
  pub readers : SleepersReadAlike
  pub alike : QuietWhereAlike
  pub sleepers : SleepersDriveAlike
  pub sleep_on : SleepersSleepOn
  pub rest : SleepersRest
  pub excerpts : ExcerptsAreCircuits
  pub simulates : ShowingSimulates
  pub sets : SetsAreStimuli
  pub units : UnitsShow

-- nothing is under way in the simulation; before a time no change is due, and no number; and the timer wheel can be so late
pub record CanLeap (time : ℕ) (s : Rerun) : Type 0 where
  pub rest : IsAtRest s.simulation
  pub stimuli : AreFrom time (left_of s.stimuli)
  pub pending_outputs : AreFrom time (left_of s.pending_outputs)
  pub timers : IsTimerWheel (time - 1) [] s.comparison.timers
  pub times : (x : ℕ) → time_of s.comparison.timers x ≢ never → time - 1 < time_of s.comparison.timers x

pub none_due_before : (u time : ℕ) (ss : List StimulusChange) → u < time → AreFrom time ss → is_due u ss ≡ false
none_due_before u time [] early from = refl
none_due_before u time (s ∷ ss) early from =
    let late = from.0 in
    ne_eqb s.time u (λ e. let no : ⊥ = omega (arith, late, e, early) in no)

pub from_earlier : (t later : ℕ) (ss : List StimulusChange) → t ≤ later → AreFrom later ss → AreFrom t ss
from_earlier t later [] low from = tt
from_earlier t later (s ∷ ss) low from = let first = from.0 in (omega (arith, first, low), from.1)

leap_heard : (u time : ℕ) (s : Rerun) → u < time → u < never → CanLeap time s → NothingIsHeard u s
leap_heard u time s early low can = record {
  wires = none_tracked s.comparison u (slot_at s.simulation.bits.simulator 0) (empty_next s.simulation.bits.simulator.wheel can.rest.bits.wires);
  copies = none_tracked s.comparison u (copy_slot s.simulation.bits.copies 0) (empty_next s.simulation.bits.copies.wheel can.rest.bits.copies);
  levels = empty_next s.simulation.wires.wheel can.rest.changes;
  stimuli = none_due_before u time (left_of s.stimuli) early can.stimuli;
  pending_outputs = none_due_before u time (left_of s.pending_outputs) early can.pending_outputs;
  timers = later_due (time - 1) u s.comparison (omega (arith, early)) low can.times;
}

-- a timer wheel that can be late can be less late
pub less_late : (t u : ℕ) (s : Rerun) → u ≤ t → IsTimerWheel t [] s.comparison.timers → IsTimerWheel u [] s.comparison.timers
less_late t u s early is = record {
  some = is.some;
  span = is.span;
  once = is.once;
  soon = λ x k some. let soon = is.soon x k some in omega (arith, soon, early);
  due = λ x some. let no : ⊥ = omega (arith, some) in absurd no;
}

module _ (old n : Circuit) (old_ok : IsCircuit old) (ok : IsCircuit n) (revised : IsRevision old n) (run : Outcome) (is_run : IsRun old run) (laws : LeapLaws) (numbering : Numbering) (since : ℕ → ℕ)
    (time : ℕ) (within : time ≤ n.horizon) (s : Rerun) (can : CanLeap time s) where
  -- ---- unit by unit
  one_unit : (t : ℕ) → t + 1 < time → IsRerunBy old n run numbering since t s → IsRerunBy old n run numbering since (t + 1) s
  one_unit t early is =
      let below : t + 1 < n.horizon = omega (arith, early, within) in
      let nothing = leap_heard (t + 1) time s early (below_never n ok (t + 1) below) can in
      let ports = is.followed.ports in
      let circuit = laws.excerpts n ok (active_of s) (on_of s) ports in
      let sim = laws.simulates n ok (active_of s) (on_of s) ports numbering t s.simulation (omega (arith, below)) is.shows in
      let outside = quiet_outside old n old_ok ok revised run is_run numbering since t below s is nothing laws.wires laws.sleepers [] [] refl refl in
      let none = laws.sets n ok (active_of s) (on_of s) ports [] [] (t + 1) below outside in
      let next = rests_on (excerpt n (active_of s) (on_of s)) circuit t s.simulation can.rest sim none in
      record {
        shows = laws.units n ok (active_of s) (on_of s) ports numbering t (t + 1) s.simulation s.simulation below is.shows next
            (record { rows = refl; outputs = refl; next = refl; data_next = refl; units = refl; copy_units = refl; change_units = refl; places = refl; seats = refl });
        followed = quiet_followed old n old_ok ok revised run is_run numbering since t below s is nothing laws.wires laws.readers laws.alike laws.sleep_on s s.comparison.timers refl refl refl
            (less_late (time - 1) (t + 1) s (omega (arith, early)) can.timers) refl refl;
      }

  some_units : (k t : ℕ) → t + k < time → IsRerunBy old n run numbering since t s → IsRerunBy old n run numbering since (t + k) s
  some_units zero t early is = let e : t ≡ t + 0 = omega arith in subst (λ u. IsRerunBy old n run numbering since u s) e is
  some_units (suc k) t early is =
      let e : t + 1 + k ≡ t + suc k = omega arith in
      subst (λ u. IsRerunBy old n run numbering since u s) e (some_units k (t + 1) (omega (arith, early)) (one_unit t (omega (arith, early)) is))

  pub units_to : (t u : ℕ) → t ≤ u → u < time → IsRerunBy old n run numbering since t s → IsRerunBy old n run numbering since u s
  units_to t u low early is =
      let e : t + (u - t) ≡ u = omega (arith, low) in
      subst (λ v. IsRerunBy old n run numbering since v s) e (some_units (u - t) t (omega (arith, low, early)) is)

  -- ---- nobody is at work
  module _ (latest last : ℕ) (is : IsRerunBy old n run numbering since last s) (early : (m : ℕ) → since m < latest + 1) (listed : IsListed n (active_of s) s.recorder.live.items) (nobody : s.recorder.live.items ≡ []) where
    pub not_live : (m : ℕ) → IsSome (module_at n m) → active_of s m ≡ true → ⊥
    not_live m stands on = none_in (let id : ModuleId = record { 0 = m } in id) (subst (λ (xs : List ModuleId). Contains xs (record { 0 = m })) nobody (listed m stands on))

    pub nobody_works : (c u : ℕ) → latest ≤ c → c ≤ last + 1 → u ≤ last + 1 → AreAtWork old n c u (active_of s)
    nobody_works c u after within_last low = record {
      works = λ m stands on. absurd (not_live m stands on);
      rests = λ m stands off working.
          let r = standing (module_at n m) stands in
          let first = early m in
          laws.rest old n old_ok ok revised (since m) last m c u r.0 (is.followed.sleeping m r.0 r.1 off) (omega (arith, first, after)) within_last low working;
    }
