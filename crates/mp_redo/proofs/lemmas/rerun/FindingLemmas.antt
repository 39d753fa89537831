-- What is known between two units tells which numbers depart in the next one.
use Rattle.std.proofs.Common.{◌≡◌, ℕ, ◌+◌, ◌<◌, nat_lt, Some, refl, sym, ap, subst, ◌∙◌, arith}
use Rattle.std.specs.Prelude.{◌&&◌}
use Rattle.mp_netlist.specs.Circuit.{Circuit, IsCircuit, module_at}
use Rattle.mp_netlist.proofs.LimitLemmas.{horizon_within}
use Rattle.mp_model.specs.Waves.{level}
use Rattle.mp_modules.specs.automata.Codes.{bit}
use Rattle.mp_kernel.specs.events.Adding.{listed}
use Rattle.mp_kernel.specs.timers.TimerWheels.{never}
use Rattle.mp_simulation.specs.bits.Simulators.{slot_at}
use Rattle.mp_simulation.specs.bits.Simulations.{copy_slot}
use Rattle.mp_partition.specs.runs.Outcomes.{Outcome}
use Rattle.mp_simulation.specs.run.Stimuli.{left_of}
use Rattle.mp_depend.specs.work.Revisions.{IsRevision}
use Rattle.mp_active.specs.agreement.Reading.{late as late_at, AreAlike, SleepersReadAlike}
use Rattle.mp_active.specs.agreement.Sources.{WiresAgree}
use Rattle.mp_active.specs.excerpt.Numberings.{Numbering}
use Rattle.mp_active.specs.declared.compare.new_changes.NewChanges.{NewChanges}
use Rattle.mp_active.specs.compare.Comparing.{departs as departs_by, asleep_at, AreNumbers, AreWithin, AreNewChanges, HaveLowBits, AgreeFrom, AgreeAsleep}
use Rattle.mp_redo.specs.declared.rerun.rerun.Rerun.{Rerun}
use Rattle.mp_redo.specs.rerun.Following.{is_tail, is_set_anew}
use Rattle.mp_redo.specs.rerun.Joining.{HasLooked, AreDeparting}
use Rattle.mp_redo.specs.rerun.Reruns.{IsRerunBy, active_of, on_of, until_of}
use Rattle.mp_redo.proofs.lemmas.rerun.SplitLemmas.{splits}
use Rattle.mp_redo.proofs.lemmas.rerun.HearingLemmas.{at_listed, reader_found}
use Rattle.mp_redo.proofs.lemmas.rerun.NumberLemmas.{asleep_within}
use Rattle.mp_redo.proofs.lemmas.rerun.DepartingLemmas.{AreComing, wires_are_numbers, copies_are_numbers, all_within, are_new}
use Rattle.mp_redo.proofs.lemmas.rerun.NarrowLemmas.{low_bits}

-- no time is too late
pub below_never : (n : Circuit) → IsCircuit n → (time : ℕ) → time < n.horizon → time < never
below_never n ok time low = let most = horizon_within n ok in omega arith

module _ (old n : Circuit) (old_ok : IsCircuit old) (ok : IsCircuit n) (revised : IsRevision old n) (run : Outcome) (numbering : Numbering) (since : ℕ → ℕ) (t : ℕ) (s : Rerun)
    (is : IsRerunBy old n run numbering since t s) where
  pub wires_ahead_are : AreNumbers s.comparison.numbers (slot_at s.simulation.bits.simulator 0)
  wires_ahead_are = wires_are_numbers n ok (active_of s) (on_of s) numbering t s.simulation is.shows s.comparison is.followed.numbered.count

  pub copies_ahead_are : AreNumbers s.comparison.numbers (copy_slot s.simulation.bits.copies 0)
  copies_ahead_are = copies_are_numbers n ok (active_of s) (on_of s) numbering t s.simulation is.shows s.comparison is.followed.numbered.count

  module _ (coming : NewChanges) (are : AreComing (t + 1) (left_of s.stimuli) (left_of s.pending_outputs) s.simulation coming) where
    pub coming_within : AreWithin s.comparison.numbers coming
    coming_within =
        all_within n ok (active_of s) (on_of s) numbering t s.simulation is.shows s.comparison is.followed.numbered.count is.followed.numbered.source
        (is_set_anew n (until_of s)) (is_tail n (active_of s) (until_of s)) (left_of s.stimuli) (left_of s.pending_outputs) is.followed.stimuli is.followed.pending_outputs coming are

    pub coming_new : (time : ℕ) → t + 1 ≡ time → AreNewChanges (level n) time s.comparison coming
    coming_new time next =
        are_new n ok (active_of s) (on_of s) numbering t s.simulation is.shows s.comparison is.followed.numbered.count is.followed.numbered.source
        (is_set_anew n (until_of s)) (is_tail n (active_of s) (until_of s)) (left_of s.stimuli) (left_of s.pending_outputs) is.followed.stimuli is.followed.pending_outputs coming are
        (until_of s) (λ w. refl) is.followed.cursors.shape.asleep is.followed.lit
        (λ w some early. splits n ok old (active_of s) since (until_of s) is.followed.sources w (t + 1) some early) time next

    pub coming_low : HaveLowBits (level old) (level n) s.comparison coming
    coming_low =
        low_bits n ok (active_of s) (on_of s) numbering t s.simulation is.shows s.comparison is.followed.numbered.count is.followed.numbered.source
        (is_set_anew n (until_of s)) (is_tail n (active_of s) (until_of s)) (left_of s.stimuli) (left_of s.pending_outputs) is.followed.stimuli is.followed.pending_outputs coming are
        old old_ok revised

  pub agree_from : WiresAgree → (time : ℕ) → t + 1 ≡ time → time < never → AgreeFrom (level old) (level n) time s.comparison
  agree_from wires time next below w u low from within =
      wires old n old_ok ok revised (active_of s) since (until_of s) t (omega (arith, next, below)) is.followed.sleeping is.followed.sources w u from (omega (arith, next, within))

  pub agree_asleep : SleepersReadAlike → AgreeAsleep (level old) (level n) t s.comparison
  agree_asleep sleepers x some =
      let within = asleep_within s.comparison is.followed.cursors.shape.asleep x some in
      let counted = is.followed.counted x within in
      let reader = reader_found (active_of s) numbering x 0 n.modules (subst (λ k. 0 < k) counted some) in
      let here : reader.place ≡ reader.number = let e = reader.is in omega (arith, e) in
      let at : module_at n reader.number ≡ Some reader.part = subst (λ k. module_at n k ≡ Some reader.part) here reader.at in
      let sleeping = is.followed.sleeping reader.number reader.part at reader.asleep in
      let alike = sleepers old n old_ok ok revised (since reader.number) t reader.number reader.part sleeping in
      let all = subst (AreAlike old n t) (sym (is.followed.numbered.wired.reads reader.number reader.part at)) alike in
      let same = at_listed (λ source. late_at old source t ≡ late_at n source t) numbering.source (numbering.inputs reader.number) x all reader.reads in
      let told = is.followed.numbered.source x within in
      sym (ap (λ (r : ℕ × ℕ). late_at old r t) told) ∙ same ∙ ap (λ (r : ℕ × ℕ). late_at n r t) told

  -- the numbers that depart, in what has looked
  pub departing_is : (new : Rerun) (time : ℕ) → HasLooked s new →
      ((x : ℕ) → listed x new.comparison.departing.items ≡ bit (nat_lt 0 (asleep_at s.comparison x) && departs_by (level old) (level n) s.comparison.numbers x time)) → AreDeparting old n time new
  departing_is new time looked are x =
      are x ∙ sym (ap (λ (r : Rerun). bit (nat_lt 0 (asleep_at r.comparison x) && departs_by (level old) (level n) r.comparison.numbers x time)) looked)
