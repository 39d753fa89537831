-- Which wires go when modules have fallen asleep.
use Rattle.std.proofs.Common.{◌≡◌, ◌≢◌, ℕ, ◌+◌, ◌-◌, ◌<◌, ◌≤◌, Bool, true, false, not, cond, nat_lt, List, [], ◌++◌, Option, Some, None, length, map, slice_index_or, zero, suc, refl, ap, sym, subst, ◌∙◌, arith, inl, inr}
use Rattle.std.specs.Prelude.{◌&&◌, ◌==◌}
use Rattle.std.specs.List.{filter}
use mathlib.Core.Path.{fun_ext}
use Rattle.std.proofs.lemmas.Bool.{cases_Bool, cases_lt, both_ways, and_left, and_right, and_from, lt-ltb, le-ltb, eq-eqb, ne_eqb}
use Rattle.std.proofs.lemmas.List.{get_or_past}
use Rattle.std.proofs.lemmas.Option.{none-some}
use Rattle.mp_records.specs.declared.ids.ModuleId.{ModuleId}
use Rattle.mp_records.specs.declared.module_record.ModuleRecord.{ModuleRecord}
use Rattle.mp_records.specs.declared.ids.WireId.{WireId}
use Rattle.mp_records.specs.declared.ports.Output.{Output}
use Rattle.mp_records.specs.Outputs.{output_at, delay_of}
use Rattle.mp_netlist.specs.declared.driver.Driver.{Driver}
use Rattle.mp_netlist.specs.declared.driver.Driver.TheVariants.{Nothing, Stimulus, Port}
use Rattle.mp_netlist.specs.Circuit.{Circuit, IsCircuit, Drives, module_at}
use Rattle.mp_netlist.specs.Drivers.{driver}
use Rattle.mp_netlist.proofs.DriverLemmas.{finds_only_ports, leaves_no_driver}
use Rattle.mp_netlist.proofs.LimitLemmas.{horizon_within}
use Rattle.mp_model.specs.Evaluations.{delay_in}
use Rattle.mp_kernel.specs.timers.TimerWheels.{never}
use Rattle.mp_simulation.specs.declared.bits.simulation.Simulation.{Simulation}
use Rattle.mp_simulation.specs.bits.Simulators.{slot_at}
use Rattle.mp_kernel.specs.declared.datapath.level_change.LevelChange.{LevelChange}
use Rattle.mp_partition.specs.runs.Marks.{is_marked}
use Rattle.mp_partition.specs.runs.Outcomes.{Outcome}
use Rattle.mp_simulation.specs.declared.units.netlist_simulation.NetlistSimulation.{NetlistSimulation}
use Rattle.mp_simulation.specs.declared.units.data_wires.DataWires.{DataWires}
use Rattle.mp_simulation.specs.units.DataWheels.{data_slot, driver_delay}
use Rattle.mp_simulation.specs.declared.run.stimuli.StimulusChange.{StimulusChange}
use Rattle.mp_active.specs.agreement.Sources.{slept_from}
use Rattle.mp_active.specs.declared.compare.comparison.Comparison.{Comparison}
use Rattle.mp_active.specs.excerpt.Leaving.{without, is_port_in}
use Rattle.mp_active.proofs.lemmas.excerpt.LeavingLemmas.{leaving_shows}
use Rattle.mp_active.proofs.lemmas.steps.SleptLemmas.{sleeping_leaves}
use Rattle.mp_active.proofs.lemmas.steps.TailLemmas.{takes_tails}
use Rattle.mp_active.specs.steps.Tails.{AreTails as AreTaken}
use Rattle.mp_active.specs.steps.Taking.{AreGone, is_gone, gone_changes, taken_toggle, taken_change, taken_at, taken_in}
use Rattle.mp_active.specs.excerpt.Numberings.{Numbering}
use Rattle.mp_active.specs.excerpt.Showing.{Shows}
use Rattle.mp_redo.specs.declared.rerun.rerun.Rerun.{Rerun}
use Rattle.mp_redo.specs.rerun.Leaving.{HasTakenTails}
use Rattle.mp_redo.specs.rerun.Reruns.{IsRerunBy, active_of, on_of, until_of}
use Rattle.mp_redo.proofs.lemmas.rerun.FallLemmas.{has_left, AreFalling}

-- ---- what is taken out

pub taken_alike : (gone : ℕ → Bool) (time : ℕ) (s new : NetlistSimulation) (units : ℕ) → new.bits.simulator.wheel ≡ s.bits.simulator.wheel → new.wires.wheel ≡ s.wires.wheel
    → taken_in gone time new units ≡ taken_in gone time s units
taken_alike gone time s new zero bits wires = refl
taken_alike gone time s new (suc units) bits wires =
    ap (λ (xs : List StimulusChange). xs ++ taken_at gone time new units) (taken_alike gone time s new units bits wires)
    ∙ ap (λ (wheel : List (List ℕ)). taken_in gone time s units ++ (map (taken_toggle (time + units)) (filter gone (slice_index_or wheel units [])) ++ map (taken_change (time + units)) (gone_changes gone (data_slot new.wires.wheel units)))) bits
    ∙ ap (λ (wheel : List (List LevelChange)). taken_in gone time s units ++ (map (taken_toggle (time + units)) (filter gone (slot_at s.bits.simulator units)) ++ map (taken_change (time + units)) (gone_changes gone (data_slot wheel units)))) wires

module _ (old new : Circuit) (ok : IsCircuit new) (run : Outcome) (numbering : Numbering) (since : ℕ → ℕ) (time units : ℕ) (leaving : List ModuleId) (s now : Rerun) (some : 0 < time) (below : time < new.horizon)
    (is : IsRerunBy old new run numbering since (time - 1) s) (are : AreFalling old new run numbering since time units leaving s now) where
  abbrev gone : ℕ → Bool
  gone w = is_gone now.comparison.sources.items w

  next : time - 1 + 1 ≡ time
  next = omega (arith, some)

  pub long_sources : length now.comparison.sources.items ≡ length new.wires
  long_sources =
      sym are.cursors.shape.have_data ∙ ap (λ (c : Comparison). length c.numbers.have_data.items) are.compared ∙ is.followed.cursors.shape.have_data ∙ is.followed.numbered.wires

  wire_stands : (w p : ℕ) (m : ModuleId) → driver new w ≡ Port m p → w < length new.wires
  wire_stands w p m drives = elim (cases_lt w (length new.wires)) as (λ _. w < length new.wires) [
    | inl low ↦ low
    | inr past ↦ let none = leaves_no_driver new ok w (get_or_past new.wires w None past) in let no : ⊥ = cc in absurd no
  ]

  gone_low : (w : ℕ) → gone w ≡ true → w < length new.wires
  gone_low w goes = elim (cases_lt w (length new.wires)) as (λ _. w < length new.wires) [
    | inl low ↦ low
    | inr past ↦
        let long = long_sources in
        let no : ⊥ = both_ways (gone w) (and_left (nat_lt w (length now.comparison.sources.items)) (not (until_of now w == never)) (le-ltb w (length now.comparison.sources.items) (omega (arith, past, long)))) goes in
        absurd no
  ]

  gone_when : (w : ℕ) → w < length new.wires → until_of now w ≢ never → gone w ≡ true
  gone_when w low other =
      let long = long_sources in
      and_from (nat_lt w (length now.comparison.sources.items)) (not (until_of now w == never)) (lt-ltb w (length now.comparison.sources.items) (omega (arith, low, long))) (ap not (ne_eqb (until_of now w) never other))

  gone_never : (w : ℕ) → until_of now w ≡ never → gone w ≡ false
  gone_never w own = and_right (nat_lt w (length now.comparison.sources.items)) (not (until_of now w == never)) (ap not (eq-eqb (until_of now w) never own))

  -- ---- who has left

  left_off : (m : ℕ) → has_left s now m ≡ true → active_of now m ≡ false
  left_off m gone = by (active_of s m) (active_of now m) gone
    where
      by : (a b : Bool) → (a && not b) ≡ true → b ≡ false
      by true false is = refl
      by true true is = let no : ⊥ = cc in absurd no
      by false true is = let no : ⊥ = cc in absurd no
      by false false is = refl

  left_was : (m : ℕ) → has_left s now m ≡ true → active_of s m ≡ true
  left_was m gone = by (active_of s m) (active_of now m) gone
    where
      by : (a b : Bool) → (a && not b) ≡ true → a ≡ true
      by true b is = refl
      by false b is = is

  pub left_when : (m : ℕ) → active_of s m ≡ true → active_of now m ≡ false → has_left s now m ≡ true
  left_when m was off = and_from (active_of s m) (not (active_of now m)) was (ap not off)

  pub slept_until : (w p : ℕ) (m : ModuleId) (r : ModuleRecord) → driver new w ≡ Port m p → module_at new m.0 ≡ Some r → active_of s m.0 ≡ true → active_of now m.0 ≡ false → until_of now w ≡ time + delay_of r p
  slept_until w p m r drives at was off =
      are.sources.asleep w p m r drives off at
      ∙ ap (λ (u : ℕ). slept_from u (delay_of r p)) (ap (λ (b : Bool). cond b time (since m.0)) (left_when m.0 was off))
      ∙ ap (λ (b : Bool). cond b 0 (time + delay_of r p)) (ne_eqb time 0 (λ zero. let no : ⊥ = omega (arith, some, zero) in no))

  not_never : (w p : ℕ) (m : ModuleId) (r : ModuleRecord) → driver new w ≡ Port m p → module_at new m.0 ≡ Some r → active_of s m.0 ≡ true → active_of now m.0 ≡ false → until_of now w ≢ never
  not_never w p m r drives at was off same =
      let is_until = slept_until w p m r drives at was off in
      let found = finds_only_ports new w p m drives in
      let high = horizon_within new ok in
      let short = delay_low m.0 p w r at found in
      let no : ⊥ = omega (arith, is_until, same, high, below, short) in
      no
    where
      delay_low : (m p w : ℕ) (r : ModuleRecord) → module_at new m ≡ Some r → Drives new m p w → delay_of r p ≤ 65535
      delay_low m p w r at drives =
          let one : Some drives.part ≡ Some r = sym drives.stands ∙ at in
          let part : drives.part ≡ r = cc in
          let output : (output_at r p).wire ≡ Some (record { 0 = w }) = ap (λ (x : ModuleRecord). (output_at x p).wire) (sym part) ∙ drives.output in
          elim (cases_lt p (length r.outputs)) as (λ _. delay_of r p ≤ 65535) [
            | inl low ↦ ((ok.modules_ok m r at).delays p (record { wire = None; delay = 1 }) low).1
            | inr past ↦
                let none : (output_at r p).wire ≡ None = ap (λ (o : Output). o.wire) (get_or_past r.outputs p (record { wire = None; delay = 1 }) past) in
                let wire : WireId = record { 0 = w } in
                absurd (none-some wire (sym none ∙ output))
          ]

  pub same_wheel : now.simulation.bits.simulator.wheel ≡ s.simulation.bits.simulator.wheel
  same_wheel = ap (λ (b : Simulation). b.simulator.wheel) are.seats.bits

  pub same_changes : now.simulation.wires.wheel ≡ s.simulation.wires.wheel
  same_changes = ap (λ (w : DataWires). w.wheel) are.seats.wires

  -- ---- what the wheels had is taken out

  are_gone : AreGone new (active_of s) (has_left s now) gone units
  are_gone = record {
    left = λ w its. left w (driver new w) refl its;
    resting = λ w goes. resting w (driver new w) refl goes;
    stand = gone_low;
    decided = λ w its. decided w (driver new w) refl its;
  }
    where
      left : (w : ℕ) (d : Driver) → driver new w ≡ d → is_port_in (has_left s now) d ≡ true → gone w ≡ true
      left w Nothing drives its = let no : ⊥ = cc in absurd no
      left w Stimulus drives its = let no : ⊥ = cc in absurd no
      left w (Port m p) drives its =
          let found = finds_only_ports new w p m drives in
          gone_when w (wire_stands w p m drives) (not_never w p m found.part drives found.stands (left_was m.0 its) (left_off m.0 its))

      resting : (w : ℕ) (d : Driver) → driver new w ≡ d → gone w ≡ true → is_port_in (without (active_of s) (has_left s now)) d ≡ false
      resting w Nothing drives goes = refl
      resting w Stimulus drives goes = refl
      resting w (Port m p) drives goes = elim (cases_Bool (active_of now m.0)) as (λ _. without (active_of s) (has_left s now) m.0 ≡ false) [
        | inl on ↦ let no : ⊥ = both_ways (gone w) (gone_never w (are.sources.awake w p m drives on)) goes in absurd no
        | inr off ↦ gone_off (active_of s m.0) (active_of now m.0) off
      ]
        where
          gone_off : (a b : Bool) → b ≡ false → (a && not (a && not b)) ≡ false
          gone_off true true is = let no : ⊥ = cc in absurd no
          gone_off true false is = refl
          gone_off false true is = refl
          gone_off false false is = refl

      decided : (w : ℕ) (d : Driver) → driver new w ≡ d → is_port_in (has_left s now) d ≡ true → driver_delay new d ≤ units
      decided w Nothing drives its = let no : ⊥ = cc in absurd no
      decided w Stimulus drives its = let no : ⊥ = cc in absurd no
      decided w (Port m p) drives its =
          let found = finds_only_ports new w p m drives in
          subst (λ (slot : Option ModuleRecord). delay_in slot p ≤ units) (sym found.stands) (are.room m.0 p w found.part its found.stands found)

  pub taken_last : AreTaken new (has_left s now) (time - 1) (taken_in gone (time - 1 + 1) s.simulation units)
  taken_last = takes_tails new ok (active_of s) (on_of s) is.followed.ports numbering (has_left s now) gone (time - 1) units s.simulation left_was are_gone is.shows

  module _ (last : Rerun) (took : HasTakenTails units time now last) where
    awake_still : (m : ℕ) → without (active_of s) (has_left s now) m ≡ active_of last m
    awake_still m = by (active_of s m) (active_of now m) (are.fewer m) ∙ sym (ap (λ (x : Rerun). is_marked x.activity.active.items m) took.kept)
      where
        by : (a b : Bool) → (b ≡ true → a ≡ true) → (a && not (a && not b)) ≡ b
        by true true fewer = refl
        by true false fewer = refl
        by false true fewer = let no : ⊥ = (let is = fewer refl in cc) in absurd no
        by false false fewer = refl

    same_on : (w : ℕ) → on_of s w ≡ on_of last w
    same_on w = sym (are.on w) ∙ sym (ap (λ (x : Rerun). on_of x w) took.kept)

    pub shows_last : Shows new (active_of last) (on_of last) numbering (time - 1) last.simulation
    shows_last =
        subst (λ (active : ℕ → Bool). Shows new active (on_of last) numbering (time - 1) last.simulation) (fun_ext awake_still)
        (subst (λ (on : ℕ → Bool). Shows new (without (active_of s) (has_left s now)) on numbering (time - 1) last.simulation) (fun_ext same_on)
        (leaving_shows new ok (active_of s) (on_of s) numbering (has_left s now) (time - 1) s.simulation last.simulation is.shows
        (sleeping_leaves new ok (active_of s) (on_of s) numbering (has_left s now) gone (time - 1) units s.simulation now.simulation last.simulation are_gone is.shows are.seats took.wheels)))
