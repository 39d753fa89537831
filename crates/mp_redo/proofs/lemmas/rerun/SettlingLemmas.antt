-- Where a re-evaluation is settled, modules sleep on, and wires keep their levels up to when they have those of the old run again.
use Rattle.std.proofs.Common.{◌≡◌, ◌⊎◌, ◌^◌, ℕ, zero, suc, ◌+◌, ◌-◌, ◌<◌, ◌≤◌, Bool, true, false, not, nat_lt, Some, length, refl, sym, ap, subst, ◌∙◌, arith, inl, inr}
use Rattle.std.specs.Prelude.{◌&&◌, ◌==◌}
use Rattle.std.specs.List.{count_by}
use Rattle.std.proofs.lemmas.Bool.{cases_lt, and_from, both_ways, lt-ltb, eq-eqb, eqb-true}
use Rattle.std.proofs.lemmas.List.Elements.{All-map}
use Rattle.mp_wave.specs.Waveform.{level_of}
use Rattle.mp_records.specs.declared.ids.ModuleId.{ModuleId}
use Rattle.mp_records.specs.declared.module_record.ModuleRecord.{ModuleRecord}
use Rattle.mp_netlist.specs.declared.driver.Driver.{Driver}
use Rattle.mp_netlist.specs.declared.driver.Driver.TheVariants.{Nothing, Stimulus, Port}
use Rattle.mp_netlist.specs.Circuit.{Circuit, IsCircuit, module_at}
use Rattle.mp_netlist.specs.Drivers.{driver, is_port}
use Rattle.mp_netlist.proofs.DriverLemmas.{finds_only_ports}
use Rattle.mp_netlist.proofs.LimitLemmas.{horizon_within}
use Rattle.mp_model.specs.Waves.{level}
use Rattle.mp_modules.specs.automata.Codes.{bit}
use Rattle.mp_kernel.specs.events.Adding.{listed}
use Rattle.mp_kernel.specs.timers.TimerWheels.{never}
use Rattle.mp_simulation.specs.bits.Changes.{change_at}
use Rattle.mp_simulation.specs.bits.WholeRuns.{is_stimulus}
use Rattle.mp_simulation.proofs.lemmas.bits.WholeLemmas.{undriven}
use Rattle.mp_partition.specs.runs.Outcomes.{Outcome}
use Rattle.mp_partition.specs.runs.Runs.{IsRun}
use Rattle.mp_simulation.specs.run.Stimuli.{is_change}
use Rattle.mp_depend.specs.work.Revisions.{IsRevision}
use Rattle.mp_active.specs.agreement.Reading.{late as late_at, AreAlike, QuietWhereAlike, SleepersReadAlike}
use Rattle.mp_active.specs.agreement.Sleeping.{AreSleeping, SleepersSleepOn}
use Rattle.mp_active.specs.agreement.Sources.{WiresAgree}
use Rattle.mp_active.specs.excerpt.Numberings.{Numbering}
use Rattle.mp_active.specs.excerpt.Excerpts.{is_followed}
use Rattle.mp_active.specs.declared.compare.wire_source.WireSource.{WireSource}
use Rattle.mp_active.specs.compare.Comparing.{wire_of, delay_of, source_at, asleep_at, old_wave, may_differ, is_tracked}
use Rattle.mp_active.specs.compare.OldRuns.{RunsAreOld}
use Rattle.mp_redo.specs.declared.rerun.rerun.Rerun.{Rerun}
use Rattle.mp_redo.specs.rerun.Following.{is_tail, is_set_anew}
use Rattle.mp_redo.specs.rerun.Joining.{NoneIsApart}
use Rattle.mp_redo.specs.rerun.Reruns.{IsRerunBy, active_of, until_of}
use Rattle.mp_redo.specs.rerun.Settling.{IsOver, IsSettled}
use Rattle.mp_redo.proofs.lemmas.rerun.FindingLemmas.{below_never, agree_asleep}
use Rattle.mp_redo.proofs.lemmas.rerun.HearingLemmas.{at_listed, reader_counted}
use Rattle.mp_redo.proofs.lemmas.rerun.NumberLemmas.{asleep_within, all_listed}
use Rattle.mp_redo.proofs.lemmas.rerun.OverLemmas.{level_set, level_rests, slept_low}
use Rattle.mp_redo.proofs.lemmas.rerun.StandingLemmas.{some_is}

-- ---- tests

rest_if : (a b : Bool) → b ≡ true → 0 ≡ bit (a && b) → a ≡ false
rest_if false b comes none = refl
rest_if true true comes none = let no : ⊥ = omega (arith, none) in absurd no
rest_if true false comes none = let no : ⊥ = cc in absurd no

equal_if : (a b : ℕ) → not (a == b) ≡ false → a ≡ b
equal_if a b none = by (a == b) refl none
  where
    by : (same : Bool) → (a == b) ≡ same → not same ≡ false → a ≡ b
    by true e off = eqb-true a b e
    by false e off = let no : ⊥ = cc in absurd no

-- what modules read that sleep, and what isn't tracked, has the levels of the old run
late_enough : (asleep : ℕ) (source : WireSource) (d time u : ℕ) → (nat_lt 0 asleep && may_differ source d time) ≡ false → 0 < asleep → time ≤ u → source.until ≤ u - d
late_enough asleep source d time u untracked some low = elim (cases_lt time (source.until + d)) as (λ _. source.until ≤ u - d) [
  | inl early ↦ elim (cases_lt 0 source.until) as (λ _. source.until ≤ u - d) [
    | inl own ↦
        let may = and_from (nat_lt time (source.until + d)) (nat_lt 0 source.until) (lt-ltb time (source.until + d) early) (lt-ltb 0 source.until own) in
        absurd (both_ways (nat_lt 0 asleep && may_differ source d time) untracked (and_from (nat_lt 0 asleep) (may_differ source d time) (lt-ltb 0 asleep some) may))
    | inr always ↦ omega (arith, always)
  ]
  | inr late ↦ omega (arith, late, low)
]

module _ (old n : Circuit) (old_ok : IsCircuit old) (ok : IsCircuit n) (revised : IsRevision old n) (run : Outcome) (numbering : Numbering) (since : ℕ → ℕ) (t : ℕ) (within : t < n.horizon) (s : Rerun)
    (is : IsRerunBy old n run numbering since t s) (settled : t + 1 < n.horizon → IsSettled n run (t + 1) s) where
  -- a wire that never has the levels of the old run is driven by no port
  no_port : IsSettled n run (t + 1) s → (w : ℕ) → until_of s w ≡ never → is_port (driver n w) ≡ false
  no_port it w gone = by (driver n w) refl
    where
      asleep : (m : ModuleId) (p : ℕ) → driver n w ≡ Port m p → (active : Bool) → active_of s m.0 ≡ active → ⊥
      asleep m p e true on = let found = finds_only_ports n w p m e in it.nobody m.0 (some_is (module_at n m.0) found.part found.stands) on
      asleep m p e false off =
          let found = finds_only_ports n w p m e in
          let from = is.followed.sources.asleep w p m found.part e off found.stands in
          let begun = (is.followed.sleeping m.0 found.part found.stands off).begun in
          let low = slept_low n found.part p (since m.0) (ok.modules_ok m.0 found.part found.stands) in
          let high = horizon_within n ok in
          omega (arith, from, begun, low, high, gone, within)

      by : (d : Driver) → driver n w ≡ d → is_port (driver n w) ≡ false
      by Nothing e = ap is_port e
      by Stimulus e = ap is_port e
      by (Port m p) e = absurd (asleep m p e (active_of s m.0) refl)

  -- ---- modules sleep on
  module _ (was : IsRun old run) (runs : RunsAreOld) (readers : SleepersReadAlike) (wires : WiresAgree) (alike : QuietWhereAlike) (sleep_on : SleepersSleepOn) where
    -- a number whose changes are over
    over_alike : IsSettled n run (t + 1) s → (x : ℕ) → 0 < asleep_at s.comparison x → IsOver n run s.comparison x (t + 1) → (u : ℕ) → t ≤ u → u + 1 < n.horizon →
        level old (wire_of s.comparison.numbers x) (u + 1 - delay_of s.comparison.numbers x) ≡ level n (wire_of s.comparison.numbers x) (u + 1 - delay_of s.comparison.numbers x)
    over_alike it x some over u low below =
        let w = wire_of s.comparison.numbers x in
        let d = delay_of s.comparison.numbers x in
        let v = u + 1 - d in
        let early = over.early in
        let from : t + 1 - 1 - d ≡ t - d = omega arith in
        let horizon = revised.horizon in
        let high = horizon_within n ok in
        let le : t + 1 - 1 - d ≤ v = omega (arith, low, early) in
        let less : v < 2 ^ 32 - 1 = omega (arith, below, high) in
        let old_now = runs old old_ok run was (u + 1) (omega (arith, horizon, below)) w v (omega arith) in
        let old_rests = level_rests (old_wave run w) (t + 1 - 1 - d) v (2 ^ 32 - 1) (is.followed.cursors.form w) over.old le less in
        let old_then = runs old old_ok run was t (omega (arith, horizon, within)) w (t - d) (omega arith) in
        let same = agree_asleep old n old_ok ok revised run numbering since t s is readers x some in
        let new_rests = level_set n ok w (t + 1 - 1 - d) v (no_port it w over.own) le over.stimulus in
        old_now ∙ old_rests ∙ ap (level_of (old_wave run w)) from ∙ sym old_then ∙ same ∙ sym (ap (level n w) from) ∙ sym new_rests

    untracked_alike : IsSettled n run (t + 1) s → (u : ℕ) → t ≤ u → u + 1 < n.horizon → AreSleeping old n (active_of s) since u → (x : ℕ) → 0 < asleep_at s.comparison x →
        (is_tracked s.comparison x (t + 1) ≡ false) ⊎ IsOver n run s.comparison x (t + 1) →
        level old (wire_of s.comparison.numbers x) (u + 1 - delay_of s.comparison.numbers x) ≡ level n (wire_of s.comparison.numbers x) (u + 1 - delay_of s.comparison.numbers x)
    untracked_alike it u low below asleep x some (inr over) = over_alike it x some over u low below
    untracked_alike it u low below asleep x some (inl untracked) =
        let c = s.comparison in
        let w = wire_of c.numbers x in
        let d = delay_of c.numbers x in
        let from = late_enough (asleep_at c x) (source_at c w) d (t + 1) (u + 1) untracked some (omega (arith, low)) in
        wires old n old_ok ok revised (active_of s) since (until_of s) u (below_never n ok (u + 1) below) asleep is.followed.sources w (u + 1 - d) from (omega arith)

    reads_alike : IsSettled n run (t + 1) s → (u : ℕ) → t ≤ u → u + 1 < n.horizon → AreSleeping old n (active_of s) since u → (x : ℕ) → 0 < asleep_at s.comparison x →
        late_at old (numbering.source x) (u + 1) ≡ late_at n (numbering.source x) (u + 1)
    reads_alike it u low below asleep x some =
        let place = asleep_within s.comparison is.followed.cursors.shape.asleep x some in
        let told = is.followed.numbered.source x place in
        let same = untracked_alike it u low below asleep x some (it.alike x place) in
        ap (λ (r : ℕ × ℕ). late_at old r (u + 1)) told ∙ same ∙ sym (ap (λ (r : ℕ × ℕ). late_at n r (u + 1)) told)

    counted : (m x : ℕ) (r : ModuleRecord) → module_at n m ≡ Some r → active_of s m ≡ false → 0 < listed x (numbering.inputs m) → 0 < asleep_at s.comparison x
    counted m x r at off reads =
        let here : m ≡ 0 + m = omega arith in
        let low = at_listed (λ (q : ℕ × ℕ). q.0 < length s.simulation.bits.simulator.fanout) (λ y. (y, 0)) (numbering.inputs m) x
        (All-map (λ (q : ℕ × ℕ). q.0 < length s.simulation.bits.simulator.fanout) (λ y. (y, 0)) (numbering.inputs m) (is.followed.numbered.wired.low m)) reads in
        let count = is.followed.numbered.count in
        subst (λ k. 0 < k) (sym (is.followed.counted x (omega (arith, low, count)))) (reader_counted (active_of s) numbering x 0 m m r n.modules here at off reads)

    none_apart : IsSettled n run (t + 1) s → (u : ℕ) → t ≤ u → u + 1 < n.horizon → AreSleeping old n (active_of s) since u → NoneIsApart old n (active_of s) (u + 1)
    none_apart it u low below asleep m r at off apart =
        let kept = (is.followed.sleeping m r at off).kept in
        let all = all_listed (λ x. late_at old (numbering.source x) (u + 1) ≡ late_at n (numbering.source x) (u + 1)) (numbering.inputs m)
        (λ x reads. reads_alike it u low below asleep x (counted m x r at off reads)) in
        (alike old n old_ok ok revised m (u + 1) r kept).1
        (subst (AreAlike old n (u + 1)) (is.followed.numbered.wired.reads m r at)
        (All-map (λ source. late_at old source (u + 1) ≡ late_at n source (u + 1)) numbering.source (numbering.inputs m) all)) apart

    sleeping_on : (k : ℕ) → t + k < n.horizon → AreSleeping old n (active_of s) since (t + k)
    sleeping_on zero low = let e : t ≡ t + 0 = omega arith in subst (AreSleeping old n (active_of s) since) e is.followed.sleeping
    sleeping_on (suc k) low =
        let before = sleeping_on k (omega (arith, low)) in
        let it = settled (omega (arith, low)) in
        let below : t + k + 1 < n.horizon = omega (arith, low) in
        let e : t + k + 1 ≡ t + suc k = omega arith in
        subst (AreSleeping old n (active_of s) since) e
        (λ m r at off. sleep_on old n (since m) (t + k) m r (before m r at off) (none_apart it (t + k) (omega arith) below before m r at off))

    pub sleeping_at : (u : ℕ) → t ≤ u → u < n.horizon → AreSleeping old n (active_of s) since u
    sleeping_at u low below =
        let e : t + (u - t) ≡ u = omega (arith, low) in
        subst (AreSleeping old n (active_of s) since) e (sleeping_on (u - t) (omega (arith, low, below)))

    -- so wires have the levels of the old run from then on that is told of each
    pub back : (w u : ℕ) → until_of s w ≤ u → u < n.horizon → level old w u ≡ level n w u
    back w u from below =
        let high = horizon_within n ok in
        wires old n old_ok ok revised (active_of s) since (until_of s) (n.horizon - 1) (omega (arith, high, below)) (sleeping_at (n.horizon - 1) (omega (arith, within)) (omega (arith, below)))
        is.followed.sources w u from (omega (arith, below))

  -- ---- wires keep their levels up to then
  rests : IsSettled n run (t + 1) s → (w u : ℕ) → t < u → u < until_of s w → change_at n w u ≡ false
  rests it w u later early = by (driver n w) refl
    where
      set_anew : driver n w ≡ Stimulus → change_at n w u ≡ false
      set_anew e =
          let gone : until_of s w ≡ never = elim (is.followed.sources.others w (ap is_port e)) as (λ _. until_of s w ≡ never) [
            | inl gone ↦ gone
            | inr alike ↦ let none = alike.0 in let no : ⊥ = omega (arith, none, early) in absurd no
          ] in
          let comes = and_from (is_stimulus (driver n w)) (until_of s w == never) (ap is_stimulus e) (eq-eqb (until_of s w) never gone) in
          rest_if (change_at n w u) (is_set_anew n (until_of s) w u) comes (sym (ap (count_by (is_change w u)) it.stimuli) ∙ is.followed.stimuli.each w u later)

      driven : (m : ModuleId) (p : ℕ) → driver n w ≡ Port m p → (active : Bool) → active_of s m.0 ≡ active → change_at n w u ≡ false
      driven m p e true on = let found = finds_only_ports n w p m e in absurd (it.nobody m.0 (some_is (module_at n m.0) found.part found.stands) on)
      driven m p e false off =
          let comes = and_from (is_followed (active_of s) (driver n w)) (nat_lt u (until_of s w)) (ap (is_followed (active_of s)) e ∙ ap not off) (lt-ltb u (until_of s w) early) in
          rest_if (change_at n w u) (is_tail n (active_of s) (until_of s) w u) comes (sym (ap (count_by (is_change w u)) it.pending_outputs) ∙ is.followed.pending_outputs.each w u later)

      by : (d : Driver) → driver n w ≡ d → change_at n w u ≡ false
      by Nothing e = undriven n ok w u e
      by Stimulus e = set_anew e
      by (Port m p) e = driven m p e (active_of s m.0) refl

  held_on : (w k : ℕ) → t + k < n.horizon → t + k < until_of s w → level n w (t + k) ≡ level n w t
  held_on w zero low early = let e : t + 0 ≡ t = omega arith in ap (level n w) e
  held_on w (suc k) low early =
      let it = settled (omega (arith, low)) in
      let same = equal_if (level n w (t + suc k - 1)) (level n w (t + suc k)) (rests it w (t + suc k) (omega arith) early) in
      let e : t + suc k - 1 ≡ t + k = omega arith in
      sym same ∙ ap (level n w) e ∙ held_on w k (omega (arith, low)) (omega (arith, early))

  pub held : (w u : ℕ) → t ≤ u → u < n.horizon → u < until_of s w → level n w u ≡ level n w t
  held w u low below early =
      let e : t + (u - t) ≡ u = omega (arith, low) in
      subst (λ v. level n w v ≡ level n w t) e (held_on w (u - t) (omega (arith, low, below)) (omega (arith, low, early)))
