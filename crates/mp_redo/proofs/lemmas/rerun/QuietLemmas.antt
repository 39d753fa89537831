-- A unit in which no number that is tracked is known to change, nothing is due, and no number comes up.
use Rattle.std.proofs.Common.{◌≡◌, ℕ, ◌+◌, ◌-◌, ◌<◌, Bool, true, false, not, cond, nat_lt, List, [], ◌∷◌, ◌++◌, All, Some, length, refl, sym, ap, subst, ◌∙◌, arith, inl, inr}
use Rattle.std.specs.Prelude.{◌&&◌, ◌==◌}
use Rattle.std.proofs.lemmas.Bool.{cases_lt, both_ways, and_parts, ltb-true, eqb-true}
use Rattle.std.proofs.lemmas.List.Elements.{All-map}
use Rattle.mp_records.specs.declared.module_record.ModuleRecord.{ModuleRecord}
use Rattle.mp_netlist.specs.Circuit.{Circuit, IsCircuit, module_at}
use Rattle.mp_netlist.specs.Drivers.{driver}
use Rattle.mp_model.specs.Waves.{level}
use Rattle.mp_modules.specs.automata.Codes.{bit}
use Rattle.mp_kernel.specs.events.Adding.{listed}
use Rattle.mp_kernel.specs.timers.TimerWheels.{never}
use Rattle.mp_simulation.specs.bits.Changes.{change_at, late_change}
use Rattle.mp_simulation.specs.bits.Simulators.{slot_at}
use Rattle.mp_simulation.specs.bits.Simulations.{copy_slot}
use Rattle.mp_kernel.specs.declared.datapath.level_change.LevelChange.{LevelChange}
use Rattle.mp_simulation.specs.units.DataLevels.{is_data, is_bit_wire, changes_of}
use Rattle.mp_simulation.specs.units.DataWheels.{data_slot}
use Rattle.mp_partition.specs.runs.Outcomes.{Outcome}
use Rattle.mp_simulation.specs.declared.run.stimuli.StimulusChange.{StimulusChange}
use Rattle.mp_simulation.specs.run.Stimuli.{bits_of, levels_of, bits_at, levels_at, changes_after, left_of}
use Rattle.mp_depend.specs.work.Revisions.{IsRevision}
use Rattle.mp_active.specs.agreement.Reading.{late as late_at, AreAlike, QuietWhereAlike, SleepersReadAlike}
use Rattle.mp_active.specs.agreement.Sources.{SleepersDriveAlike, WiresAgree}
use Rattle.mp_active.specs.excerpt.Numberings.{Numbering}
use Rattle.mp_active.specs.excerpt.Setting.{is_outside, AreSetOutside}
use Rattle.mp_active.specs.declared.compare.comparison.Comparison.{Comparison}
use Rattle.mp_active.specs.compare.Comparing.{wire_of, delay_of, late, source_at, asleep_at, is_tracked, AreUntracked, may_differ, IsOldRun}
use Rattle.mp_active.specs.compare.Passing.{is_set}
use Rattle.mp_active.proofs.lemmas.compare.CursorLemmas.{is_number}
use Rattle.mp_active.proofs.lemmas.compare.QuietLemmas.{NoneIsDue, none_departs, none_set}
use Rattle.mp_redo.specs.declared.rerun.rerun.Rerun.{Rerun}
use Rattle.mp_redo.specs.rerun.Following.{is_tail, is_set_anew}
use Rattle.mp_redo.specs.rerun.Idle.{is_due}
use Rattle.mp_redo.specs.rerun.Joining.{NoneIsApart}
use Rattle.mp_redo.specs.rerun.Reruns.{IsRerunBy, active_of, on_of, until_of}
use Rattle.mp_redo.proofs.lemmas.rerun.ComingLemmas.{IsSplit, all_come}
use Rattle.mp_redo.proofs.lemmas.rerun.FindingLemmas.{agree_from, agree_asleep}
use Rattle.mp_redo.proofs.lemmas.rerun.FollowLemmas.{follows_on}
use Rattle.mp_redo.proofs.lemmas.rerun.HearingLemmas.{at_listed, reader_counted}
use Rattle.mp_redo.proofs.lemmas.rerun.LateLemmas.{late_differs}
use Rattle.mp_redo.proofs.lemmas.rerun.SplitLemmas.{splits, outside_split}
use Rattle.mp_redo.proofs.lemmas.rerun.ToComeLemmas.{bits_to_come, levels_to_come}
use Rattle.mp_redo.proofs.lemmas.rerun.NumberLemmas.{all_listed}

-- ---- changes of which none is due

pub none_after : (u : ℕ) (ss : List StimulusChange) → is_due u ss ≡ false → changes_after u ss ≡ ss
none_after u [] e = refl
none_after u (s ∷ ss) e = ap (λ b. cond b (changes_after u ss) (s ∷ ss)) e

no_bits : (u : ℕ) (ss : List StimulusChange) → is_due u ss ≡ false → bits_at u ss ≡ []
no_bits u [] e = refl
no_bits u (s ∷ ss) e = ap (λ b. cond b (bits_of s ++ bits_at u ss) []) e

no_levels : (u : ℕ) (ss : List StimulusChange) → is_due u ss ≡ false → levels_at u ss ≡ []
no_levels u [] e = refl
no_levels u (s ∷ ss) e = ap (λ b. cond b (levels_of s ++ levels_at u ss) []) e

-- nothing is heard in the unit of a time, the next one: no number that is tracked is known to change, nothing is set anew, and no number has an
-- old change
pub record NothingIsHeard (u : ℕ) (s : Rerun) : Type 0 where
  pub wires : AreUntracked s.comparison u (slot_at s.simulation.bits.simulator 0)
  pub copies : AreUntracked s.comparison u (copy_slot s.simulation.bits.copies 0)
  pub levels : data_slot s.simulation.wires.wheel 0 ≡ []
  pub stimuli : is_due u (left_of s.stimuli) ≡ false
  pub pending_outputs : is_due u (left_of s.pending_outputs) ≡ false
  pub timers : NoneIsDue u s.comparison

-- none of no numbers is tracked
pub none_tracked : (c : Comparison) (u : ℕ) (xs : List ℕ) → xs ≡ [] → AreUntracked c u xs
none_tracked c u xs none = subst (AreUntracked c u) (sym none) (λ k d low. let no : ⊥ = omega (arith, low) in absurd no)

-- a number that is tracked isn't among those that aren't
untracked : (c : Comparison) (u : ℕ) (xs : List ℕ) (x : ℕ) → AreUntracked c u xs → is_tracked c x u ≡ true → listed x xs ≡ 0
untracked c u xs x none tracked = elim (cases_lt 0 (listed x xs)) as (λ _. listed x xs ≡ 0) [
  | inl some ↦ absurd (both_ways (is_tracked c x u)
      (at_listed (λ (q : ℕ × ℕ). is_tracked c q.0 u ≡ false) (λ y. (y, 0)) xs x (All-map (λ (q : ℕ × ℕ). is_tracked c q.0 u ≡ false) (λ y. (y, 0)) xs none) some) tracked)
  | inr not_some ↦ omega arith
]

-- ---- tests

the_same : (a b : ℕ) → bit (not (a == b)) ≡ 0 → a ≡ b
the_same a b none = by (a == b) refl none
  where
    by : (same : Bool) → (a == b) ≡ same → bit (not same) ≡ 0 → a ≡ b
    by true e off = eqb-true a b e
    by false e off = let no : ⊥ = omega (arith, off) in absurd no

both_parts : (wide : Bool) (k : ℕ) → cond wide 0 k ≡ 0 → cond wide k 0 ≡ 0 → k ≡ 0
both_parts true k a b = b
both_parts false k a b = a

set_by_none : (c is o : Bool) → bit (c && o) ≡ 0 → 0 ≡ bit ((c && is) && o)
set_by_none true true o none = sym none
set_by_none true false o none = refl
set_by_none false is o none = refl

module _ (old n : Circuit) (old_ok : IsCircuit old) (ok : IsCircuit n) (revised : IsRevision old n) (run : Outcome) (numbering : Numbering) (since : ℕ → ℕ) (t : ℕ) (s : Rerun)
    (is : IsRerunBy old n run numbering since t s) (nothing : NothingIsHeard (t + 1) s) where
  -- ---- no number that is tracked changes
  stays : (x : ℕ) → is_tracked s.comparison x (t + 1) ≡ true → late (level n) s.comparison.numbers x t ≡ late (level n) s.comparison.numbers x (t + 1)
  stays x tracked =
      let c = s.comparison in
      let w = wire_of c.numbers x in
      let d = delay_of c.numbers x in
      let parts = and_parts (nat_lt 0 (asleep_at c x)) (may_differ (source_at c w) d (t + 1)) tracked in
      let may = and_parts (nat_lt (t + 1) ((source_at c w).until + d)) (nat_lt 0 (source_at c w).until) parts.1 in
      let within = is_number run t [] c x is.followed.cursors (ltb-true 0 (asleep_at c x) parts.0) in
      let told = is.followed.numbered.source x within in
      let early = ltb-true (t + 1) ((source_at c w).until + d) may.0 in
      let some = ltb-true 0 (source_at c w).until may.1 in
      let count = is.followed.numbered.count in
      let bright : on_of s (numbering.source x).0 ≡ true = ap (λ (r : ℕ × ℕ). on_of s r.0) told ∙ is.followed.lit w some in
      let comes = all_come n ok (active_of s) (on_of s) numbering t s.simulation is.shows (is_set_anew n (until_of s)) (is_tail n (active_of s) (until_of s)) (left_of s.stimuli) (left_of s.pending_outputs)
      is.followed.stimuli is.followed.pending_outputs x (omega (arith, within, count)) bright
      (λ own.
      let wire : w ≡ x = ap (λ (r : ℕ × ℕ). r.0) (sym told ∙ own) in
      let none : d ≡ 0 = ap (λ (r : ℕ × ℕ). r.1) (sym told ∙ own) in
      subst (IsSplit n (active_of s) (is_set_anew n (until_of s)) (is_tail n (active_of s) (until_of s)) (t + 1)) wire
      (splits n ok old (active_of s) since (until_of s) is.followed.sources w (t + 1) some (omega (arith, early, none)))) in
      let a = untracked c (t + 1) (slot_at s.simulation.bits.simulator 0) x nothing.wires tracked in
      let b = untracked c (t + 1) (copy_slot s.simulation.bits.copies 0) x nothing.copies tracked in
      let e = ap (listed x) (no_bits (t + 1) (left_of s.stimuli) nothing.stimuli) in
      let f = ap (listed x) (no_bits (t + 1) (left_of s.pending_outputs) nothing.pending_outputs) in
      let g = ap (changes_of x) nothing.levels in
      let h = ap (changes_of x) (no_levels (t + 1) (left_of s.stimuli) nothing.stimuli) in
      let i = ap (changes_of x) (no_levels (t + 1) (left_of s.pending_outputs) nothing.pending_outputs) in
      let rests : bit (late_change n (numbering.source x) (t + 1)) ≡ 0 = omega (arith, comes, a, b, e, f, g, h, i) in
      let same = the_same (level n (numbering.source x).0 (t - (numbering.source x).1)) (level n (numbering.source x).0 (t + 1 - (numbering.source x).1))
      (ap bit (late_differs n ok (numbering.source x) t) ∙ rests) in
      sym (ap (λ (r : ℕ × ℕ). level n r.0 (t - r.1)) told) ∙ same ∙ ap (λ (r : ℕ × ℕ). level n r.0 (t + 1 - r.1)) told

  module _ (below : t + 1 < never) (was : IsOldRun (level old) run (t + 1)) (wires : WiresAgree) where
    -- ---- so no module that sleeps is apart
    module _ (readers : SleepersReadAlike) (alike : QuietWhereAlike) where
      reads_alike : (x : ℕ) → 0 < asleep_at s.comparison x → late_at old (numbering.source x) (t + 1) ≡ late_at n (numbering.source x) (t + 1)
      reads_alike x some =
          let told = is.followed.numbered.source x (is_number run t [] s.comparison x is.followed.cursors some) in
          let same = none_departs (level old) run t s.comparison is.followed.cursors nothing.timers was is.followed.complete (level n)
          (agree_from old n old_ok ok revised run numbering since t s is wires (t + 1) refl below) (agree_asleep old n old_ok ok revised run numbering since t s is readers) stays x some in
          ap (λ (r : ℕ × ℕ). late_at old r (t + 1)) told ∙ same ∙ sym (ap (λ (r : ℕ × ℕ). late_at n r (t + 1)) told)

      counted : (m x : ℕ) (r : ModuleRecord) → module_at n m ≡ Some r → active_of s m ≡ false → 0 < listed x (numbering.inputs m) → 0 < asleep_at s.comparison x
      counted m x r at asleep reads =
          let here : m ≡ 0 + m = omega arith in
          let low = at_listed (λ (q : ℕ × ℕ). q.0 < length s.simulation.bits.simulator.fanout) (λ y. (y, 0)) (numbering.inputs m) x
          (All-map (λ (q : ℕ × ℕ). q.0 < length s.simulation.bits.simulator.fanout) (λ y. (y, 0)) (numbering.inputs m) (is.followed.numbered.wired.low m)) reads in
          let count = is.followed.numbered.count in
          subst (λ k. 0 < k) (sym (is.followed.counted x (omega (arith, low, count)))) (reader_counted (active_of s) numbering x 0 m m r n.modules here at asleep reads)

      pub none_apart : NoneIsApart old n (active_of s) (t + 1)
      none_apart m r at asleep apart =
          let kept = (is.followed.sleeping m r at asleep).kept in
          let all = all_listed (λ x. late_at old (numbering.source x) (t + 1) ≡ late_at n (numbering.source x) (t + 1)) (numbering.inputs m)
          (λ x reads. reads_alike x (counted m x r at asleep reads)) in
          (alike old n old_ok ok revised m (t + 1) r kept).1
          (subst (AreAlike old n (t + 1)) (is.followed.numbered.wired.reads m r at)
          (All-map (λ source. late_at old source (t + 1) ≡ late_at n source (t + 1)) numbering.source (numbering.inputs m) all)) apart

    -- ---- and nothing is set
    rests_outside : SleepersDriveAlike → (w : ℕ) → bit (change_at n w (t + 1) && (on_of s w && is_outside (active_of s) (driver n w))) ≡ 0
    rests_outside sleepers w =
        let sum = outside_split n ok old (active_of s) since (until_of s) is.followed.sources (on_of s) (change_at old w (t + 1)) w (t + 1) (is.followed.lit w) below
        (λ soon. follows_on old n old_ok ok revised wires sleepers (active_of s) since (until_of s) t below is.followed.sleeping is.followed.sources w soon) in
        let set : is_set (level old) (t + 1) s.comparison w ≡ false = none_set (level old) run t s.comparison is.followed.cursors nothing.timers was is.followed.complete w below in
        let none : bit (is_set (level old) (t + 1) s.comparison w) ≡ 0 = ap bit set in
        let anew = is_set_anew n (until_of s) in
        let tail = is_tail n (active_of s) (until_of s) in
        let a = both_parts (is_data n w) (bit (change_at n w (t + 1) && anew w (t + 1)))
        (sym (bits_to_come n anew t (left_of s.stimuli) is.followed.stimuli w) ∙ ap (listed w) (no_bits (t + 1) (left_of s.stimuli) nothing.stimuli))
        (sym (levels_to_come n anew t (left_of s.stimuli) is.followed.stimuli w) ∙ ap (changes_of w) (no_levels (t + 1) (left_of s.stimuli) nothing.stimuli)) in
        let b = both_parts (is_data n w) (bit (change_at n w (t + 1) && tail w (t + 1)))
        (sym (bits_to_come n tail t (left_of s.pending_outputs) is.followed.pending_outputs w) ∙ ap (listed w) (no_bits (t + 1) (left_of s.pending_outputs) nothing.pending_outputs))
        (sym (levels_to_come n tail t (left_of s.pending_outputs) is.followed.pending_outputs w) ∙ ap (changes_of w) (no_levels (t + 1) (left_of s.pending_outputs) nothing.pending_outputs)) in
        omega (arith, sum, none, a, b)

    pub none_outside : SleepersDriveAlike → (bits : List ℕ) (levels : List LevelChange) → bits ≡ [] → levels ≡ [] → AreSetOutside n (active_of s) (on_of s) bits levels (t + 1)
    none_outside sleepers bits levels no_bits_set no_levels_set = record {
      bits = λ w. ap (listed w) no_bits_set ∙ set_by_none (change_at n w (t + 1)) (is_bit_wire n w) (on_of s w && is_outside (active_of s) (driver n w)) (rests_outside sleepers w);
      each = λ w. ap (changes_of w) no_levels_set ∙ set_by_none (change_at n w (t + 1)) (is_data n w) (on_of s w && is_outside (active_of s) (driver n w)) (rests_outside sleepers w);
      levels = subst (All (λ (c : LevelChange). c.level ≡ level n c.number (t + 1))) (sym no_levels_set) (λ k d low. let no : ⊥ = omega (arith, low) in absurd no);
    }
