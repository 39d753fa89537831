-- A whole unit.
use Rattle.std.proofs.Common.{◌≡◌, ℕ, ◌+◌, ◌-◌, ◌<◌, Bool, true, false, not, drop, List, [], ◌∷◌, ◌++◌, Option, Some, None, All, length, refl, sym, ap, ◌∙◌, arith, subst}
use Rattle.std.specs.Prelude.{◌==◌, ◌&&◌, slice_index}
use Rattle.std.proofs.lemmas.Bool.{eqb-true}
use Rattle.mp_wave.specs.Waveform.{Waveform, wave_upto, held_from}
use Rattle.mp_wave.specs.Building.{Building}
use Rattle.mp_records.specs.declared.module_record.ModuleRecord.{ModuleRecord}
use Rattle.mp_netlist.specs.Circuit.{Circuit, IsCircuit, module_at}
use Rattle.mp_model.specs.Waves.{level}
use Rattle.mp_modules.specs.automata.Codes.{bit}
use Rattle.mp_kernel.specs.declared.events.output_port.OutputPort.{OutputPort}
use Rattle.mp_kernel.specs.events.Firing.{HasSlot}
use Rattle.mp_simulation.specs.declared.bits.simulator.Simulator.{Simulator}
use Rattle.mp_simulation.specs.bits.Changes.{change_at, late_change}
use Rattle.mp_simulation.specs.bits.Scopes.{Scope, known_after, with_answers}
use Rattle.mp_simulation.specs.bits.Simulators.{next_slot, IsBelow, IsSound}
use Rattle.mp_simulation.specs.bits.Units.{IsBefore, IsDuring}
use Rattle.mp_simulation.specs.bits.Copies.{AreChained, HaveCopies, HaveLaterCopies, AreOriginals, AreListedBelow}
use Rattle.mp_simulation.specs.bits.Simulations.{copy_slot, IsSoundRun, IsRunning}
use Rattle.mp_simulation.specs.bits.WholeRuns.{IsWhole}
use Rattle.mp_simulation.proofs.lemmas.bits.CopyLemmas.{copies_later, low_turned, behind_kept}
use Rattle.mp_simulation.proofs.lemmas.bits.SimulationLemmas.{copies_sound}
use Rattle.mp_kernel.specs.declared.datapath.level_change.LevelChange.{LevelChange}
use Rattle.mp_kernel.specs.datapath.Levels.{toggled}
use Rattle.mp_kernel.specs.datapath.LevelWheels.{with_entry, scheduled, copied_from}
use Rattle.mp_kernel.specs.datapath.DataFiring.{HaveStepped, changed_by}
use Rattle.mp_simulation.specs.declared.units.netlist_simulation.NetlistSimulation.{NetlistSimulation}
use Rattle.mp_simulation.specs.units.DataLevels.{is_data, late_level, changes_of}
use Rattle.mp_simulation.specs.units.DataWaves.{building_at, pushed}
use Rattle.mp_simulation.specs.units.DataWheels.{data_slot, HaveLevels, AreChangesBelow, AreDataWires}
use Rattle.mp_simulation.specs.units.DataSeats.{AreDataModules}
use Rattle.mp_simulation.specs.units.NetlistSimulations.{AreSplit, IsSimulated, AreStimuli}
use Rattle.mp_simulation.specs.units.Units.{present_of}
use Rattle.mp_simulation.proofs.lemmas.units.LateLemmas.{own_level}
use Rattle.mp_simulation.proofs.lemmas.units.LevelLemmas.{toggled_length, changed_length}
use Rattle.mp_simulation.proofs.lemmas.units.AheadLemmas.{levels_next}
use Rattle.mp_simulation.proofs.lemmas.units.DuringLemmas.{data_known, with_data, with_wheel}
use Rattle.mp_simulation.proofs.lemmas.units.PresentLemmas.{at_once, data_wire}
use Rattle.mp_simulation.proofs.lemmas.units.AnsweredLemmas.{IsAnswered, far, are_entered, answered, level_is, positive, entries_low, modules_stepped}
use Rattle.mp_simulation.proofs.lemmas.units.WaveLemmas.{held_upto, same_upto, pushed_length, pushed_other, pushed_own, pushed_over}
use Rattle.mp_simulation.proofs.lemmas.units.HeardLemmas.{enough, each, right, all}

-- and then a unit makes of a simulation another
pub record IsPassed (s new : NetlistSimulation) (set : List ℕ) (changes : List LevelChange) (time : ℕ) (mid : Simulator) (levels : List ℕ) (events : List (List ℕ)) : Type 0 where
  pub copies_next : new.bits.copies.next.items ≡ s.bits.copies.next.items
  pub copies_units : length new.bits.copies.wheel ≡ length s.bits.copies.wheel
  pub copies_low : (bound : ℕ) → All (IsBelow bound) s.bits.copies.next.items → AreListedBelow bound (drop 1 s.bits.copies.wheel ++ [] ∷ []) → AreListedBelow bound new.bits.copies.wheel
  pub copies : (n : Circuit) (source : ℕ → ℕ × ℕ) (before : ℕ → Option ℕ) (t : ℕ) → AreChained source before s.bits.copies.next.items →
      HaveLaterCopies n source before s.bits.copies.next.items t (drop 1 s.bits.copies.wheel ++ [] ∷ []) →
      AreOriginals n source before (copy_slot s.bits.copies 0 ++ (next_slot s.bits.simulator ++ set)) (t + 1) → HaveCopies n source before s.bits.copies.next.items (t + 1) new.bits.copies.wheel
  pub levels_same : new.wires.levels.items ≡ levels
  pub waves : new.wires.waves.items ≡ pushed s.wires.waves.items time (present_of s changes)
  pub next : new.wires.next.items ≡ s.wires.next.items
  pub wheel : new.wires.wheel ≡ scheduled (drop 1 s.wires.wheel ++ [] ∷ [])
      (copied_from s.wires.next.items (present_of s changes) ++ changed_by levels s.modules.places.items s.modules.modules.items mid.due.items)
  pub wheel_units : length new.wires.wheel ≡ length s.wires.wheel
  pub kept : new.modules.places.items ≡ s.modules.places.items
  pub stepped : HaveStepped levels s.modules.places.items mid.due.items s.modules.modules.items new.modules.modules.items
  pub fired : (n : Circuit) (scope : Scope) (t : ℕ) → IsCircuit n → IsDuring n scope t (with_wheel mid events) → IsBefore n (with_answers scope (t + 2)) (t + 1) new.bits.simulator
  pub sound_new : IsSound new.bits.simulator
  pub fanout_new : new.bits.simulator.fanout ≡ mid.fanout
  pub waves_new : new.bits.simulator.waves ≡ mid.waves
  pub units_new : length new.bits.simulator.wheel ≡ length events
  pub places_new : length new.bits.simulator.states.items ≡ length mid.states.items

bits_of : (c : Bool) → bit (c && true) ≡ bit c
bits_of true = refl
bits_of false = refl

not_change : (b : Bool) → not b ≡ false → b ≡ true
not_change true is = refl
not_change false is = sym is

-- one after the other is both
pub levels_both : (slots : List (List LevelChange)) (xs ys : List (ℕ × LevelChange)) → scheduled (scheduled slots xs) ys ≡ scheduled slots (xs ++ ys)
levels_both slots [] ys = refl
levels_both slots (x ∷ xs) ys = levels_both (with_entry slots x.0 x.1) xs ys

module _ (n : Circuit) (ok : IsCircuit n) (t : ℕ) (s : NetlistSimulation) (is : IsSimulated n t s) (set : List ℕ) (levels : List LevelChange) (sets : AreStimuli n set levels (t + 1))
    (mid : Simulator) (lv : List ℕ) (events : List (List ℕ)) (h : IsAnswered s set levels (t + 1) mid lv events)
    (new : NetlistSimulation) (p : IsPassed s new set levels (t + 1) mid lv events) where
  in_next : (x : ℕ) → x < length s.bits.simulator.fanout → x < length s.wires.next.items
  in_next x within = let same = is.wires.next in omega arith

  before_next : IsBefore n (with_answers (with_data is.scope (t + 2)) (t + 2)) (t + 1) new.bits.simulator
  before_next = p.fired n (with_data is.scope (t + 2)) t ok (answered n ok t s is set levels sets mid lv events h)

  wheel_next : HaveLevels n is.scope.source is.data_before s.wires.next.items (t + 1) new.wires.wheel
  wheel_next =
      levels_next n is.scope.source is.data_before s.wires.next.items t s.wires.wheel is.wires.some is.wires.changes (far n ok t s is set levels sets mid lv events h)
      (copied_from s.wires.next.items (data_slot s.wires.wheel 0 ++ levels) ++ changed_by lv s.modules.places.items s.modules.modules.items mid.due.items)
      (are_entered n ok t s is set levels sets mid lv events h) new.wires.wheel p.wheel p.wheel_units

  -- ---- waves

  -- how often a wire with data is among what changes
  count_is : (w : ℕ) → is_data n w ≡ true → changes_of w (data_slot s.wires.wheel 0 ++ levels) ≡ bit (change_at n w (t + 1))
  count_is w wide =
      let wire = data_wire n w wide in
      let more = enough n ok t s is set levels sets in
      each n ok t s is set levels sets w (in_next w (omega arith))
      ∙ ap (λ (r : ℕ × ℕ). bit (late_change n r (t + 1) && is_data n r.0)) (is.split.wires w wide).0
      ∙ ap (λ b. bit (late_change n (w, 0) (t + 1) && b)) wide
      ∙ bits_of (late_change n (w, 0) (t + 1))
      ∙ ap bit (at_once n w (t + 1) (omega arith))

  wave_when : (w : ℕ) (c : Bool) → change_at n w (t + 1) ≡ c → is_data n w ≡ true → (building_at new.wires.waves.items w).wave ≡ wave_upto (level n w) (t + 1)
  wave_when w true changes wide =
      let wire = data_wire n w wide in
      let same = is.wires.wires in
      let own : late_level n (is.scope.source w) (t + 1) ≡ level n w (t + 1) = ap (λ (r : ℕ × ℕ). late_level n r (t + 1)) (is.split.wires w wide).0 ∙ own_level n w (t + 1) in
      ap (λ (bs : List Building). (building_at bs w).wave) p.waves
      ∙ ap (λ (b : Building). b.wave) (pushed_own (λ y. late_level n (is.scope.source y) (t + 1)) s.wires.waves.items (t + 1) (data_slot s.wires.wheel 0 ++ levels) w (omega arith)
      (right n ok t s is set levels sets) (count_is w wide ∙ ap bit changes))
      ∙ ap (λ (v : Waveform). held_from v (t + 1) (late_level n (is.scope.source w) (t + 1))) (is.wires.waves w wide)
      ∙ ap (λ l. held_from (wave_upto (level n w) t) (t + 1) l) own
      ∙ held_upto (level n w) t
  wave_when w false changes wide =
      let time : t + 1 - 1 ≡ t = omega arith in
      let still : level n w t ≡ level n w (t + 1) =
      eqb-true (level n w t) (level n w (t + 1)) (ap (λ u. level n w u == level n w (t + 1)) (sym time) ∙ not_change (level n w (t + 1 - 1) == level n w (t + 1)) changes) in
      ap (λ (bs : List Building). (building_at bs w).wave) p.waves
      ∙ ap (λ (b : Building). b.wave) (pushed_other s.wires.waves.items (t + 1) (data_slot s.wires.wheel 0 ++ levels) w (count_is w wide ∙ ap bit changes))
      ∙ is.wires.waves w wide
      ∙ sym (same_upto (level n w) t still)

  wires_next : AreDataWires n is.scope.source is.data_before (length s.bits.simulator.fanout) (t + 1) new.wires
  wires_next = record {
    places =
        ap (length {A = ℕ}) (p.levels_same ∙ h.levels_are)
        ∙ changed_length (toggled (toggled s.wires.levels.items (next_slot s.bits.simulator ++ set)) (copy_slot s.bits.copies 0)) (data_slot s.wires.wheel 0 ++ levels)
        ∙ toggled_length (toggled s.wires.levels.items (next_slot s.bits.simulator ++ set)) (copy_slot s.bits.copies 0)
        ∙ toggled_length s.wires.levels.items (next_slot s.bits.simulator ++ set)
        ∙ is.wires.places;
    next = ap (length {A = OutputPort}) p.next ∙ is.wires.next;
    chained = subst (λ (xs : List OutputPort). AreChained is.scope.source is.data_before xs) (sym p.next) is.wires.chained;
    below = subst (λ (xs : List OutputPort). All (IsBelow (length s.bits.simulator.fanout)) xs) (sym p.next) is.wires.below;
    within = subst (λ (xs : List OutputPort). All (HasSlot (length new.wires.wheel)) xs) (sym p.next) (subst (λ k. All (HasSlot k) s.wires.next.items) (sym p.wheel_units) is.wires.within);
    some = let some = is.wires.some in let same = p.wheel_units in omega arith;
    numbered = subst (λ (slots : List (List LevelChange)). AreChangesBelow (length s.bits.simulator.fanout) slots) (sym p.wheel) (entries_low n ok t s is set levels sets mid lv events h);
    changes = subst (λ (xs : List OutputPort). HaveLevels n is.scope.source is.data_before xs (t + 1) new.wires.wheel) (sym p.next) wheel_next;
    levels = λ x within. ap (λ (xs : List ℕ). slice_index xs x) p.levels_same ∙ level_is n ok t s is set levels sets mid lv events h x within;
    wires = ap (length {A = Building}) p.waves ∙ pushed_length s.wires.waves.items (t + 1) (data_slot s.wires.wheel 0 ++ levels) ∙ is.wires.wires;
    waves = λ w wide. wave_when w (change_at n w (t + 1)) refl wide;
    over = λ w.
        let low = pushed_over s.wires.waves.items (t + 1) (t + 2) (data_slot s.wires.wheel 0 ++ levels) (omega arith) (λ y. let a = is.wires.over y in omega arith) w in
        let same = ap (λ (bs : List Building). (building_at bs w).next) p.waves in
        omega arith;
  }

  -- ---- all of it

  known_when : (m : ℕ) (r : ModuleRecord) (o : Option ℕ) → is.scope.place m ≡ o → module_at n m ≡ Some r → known_after o (t + 2) (data_known o (t + 2) (is.scope.known m)) ≡ t + 1 + 1
  known_when m r None place at = omega arith
  known_when m r (Some q) place at = omega arith

  whole_next : IsWhole n (with_answers (with_data is.scope (t + 2)) (t + 2)) is.before (t + 1)
  whole_next = record {
    source = is.whole.source;
    own = λ w traced. is.own w (t + 1 + 1) ∙ traced;
    other = λ w traced. is.own w (t + 1 + 1) ∙ traced;
    arrived = λ w q m r drives at traced.
        let known = known_when m.0 r (is.scope.place m.0) refl at in
        let some = positive n ok t s is set levels sets mid lv events h m.0 r q at in
        omega arith;
    copies = is.whole.copies;
    inputs = is.whole.inputs;
  }

  same_count : length new.bits.simulator.fanout ≡ length s.bits.simulator.fanout
  same_count = ap length (p.fanout_new ∙ h.fanout)

  running_next : IsRunning n (with_answers (with_data is.scope (t + 2)) (t + 2)) is.before (t + 1) new.bits
  running_next =
      let c = is.sound.copies in
      let next = s.bits.copies.next.items in
      record {
        simulator = before_next;
        chained = subst (λ (xs : List OutputPort). AreChained is.scope.source is.before xs) (sym p.copies_next) is.running.chained;
        copies = subst (λ (xs : List OutputPort). HaveCopies n is.scope.source is.before xs (t + 1) new.bits.copies.wheel) (sym p.copies_next)
            (p.copies n is.scope.source is.before t is.running.chained
            (copies_later n is.scope.source is.before next t s.bits.copies.wheel c.some is.running.chained c.within is.running.copies)
            (all n ok t s is set levels sets).originals);
      }

  sound_next : IsSoundRun new.bits
  sound_next =
      let c = is.sound.copies in
      record {
        simulator = p.sound_new;
        copies = copies_sound s.bits.copies new.bits.copies (length s.bits.simulator.fanout) (length new.bits.simulator.fanout) c p.copies_next p.copies_units
            (p.copies_low (length s.bits.simulator.fanout) c.below (low_turned (length s.bits.simulator.fanout) s.bits.copies.wheel c.numbered)) same_count;
        behind = behind_kept s.bits.copies.next.items new.bits.copies.next.items (length s.bits.simulator.waves) (length new.bits.simulator.waves) is.sound.behind p.copies_next
            (ap (length {A = Waveform}) p.waves_new ∙ h.bit_waves);
      }

  split_next : AreSplit n (with_answers (with_data is.scope (t + 2)) (t + 2)) is.before is.data_before (length s.bits.simulator.fanout)
  split_next = record {
    bits = is.split.bits;
    with_data = is.split.with_data;
    wires = is.split.wires;
    data_copies = is.split.data_copies;
    bit_copies = is.split.bit_copies;
  }

  pub passed : IsSimulated n (t + 1) new
  passed =
      let places : length new.bits.simulator.states.items ≡ length s.bits.simulator.states.items = p.places_new ∙ h.places in
      let units : length new.bits.simulator.wheel ≡ length s.bits.simulator.wheel = p.units_new ∙ h.events_units ∙ h.units in
      record {
        scope = with_answers (with_data is.scope (t + 2)) (t + 2);
        before = is.before;
        data_before = is.data_before;
        sound = sound_next;
        running = running_next;
        whole = whole_next;
        own = is.own;
        traces = is.traces;
        known = λ m r at. known_when m r (is.scope.place m) refl at;
        places = places ∙ is.places;
        seats = is.seats;
        waves = ap (length {A = Waveform}) p.waves_new ∙ h.bit_waves ∙ is.waves;
        split = subst (λ k. AreSplit n (with_answers (with_data is.scope (t + 2)) (t + 2)) is.before is.data_before k) (sym same_count) split_next;
        wires = subst (λ k. AreDataWires n is.scope.source is.data_before k (t + 1) new.wires) (sym same_count) wires_next;
        modules =
            subst (λ k. AreDataModules n (with_answers (with_data is.scope (t + 2)) (t + 2)) k (length new.bits.simulator.states.items) (length new.bits.simulator.wheel) (length new.wires.wheel) (t + 1) new.modules) (sym same_count)
            (subst (λ k. AreDataModules n (with_answers (with_data is.scope (t + 2)) (t + 2)) (length s.bits.simulator.fanout) k (length new.bits.simulator.wheel) (length new.wires.wheel) (t + 1) new.modules) (sym places)
            (subst (λ k. AreDataModules n (with_answers (with_data is.scope (t + 2)) (t + 2)) (length s.bits.simulator.fanout) (length s.bits.simulator.states.items) k (length new.wires.wheel) (t + 1) new.modules) (sym units)
            (subst (λ k. AreDataModules n (with_answers (with_data is.scope (t + 2)) (t + 2)) (length s.bits.simulator.fanout) (length s.bits.simulator.states.items) (length s.bits.simulator.wheel) k (t + 1) new.modules) (sym p.wheel_units)
            (modules_stepped n ok t s is set levels sets mid lv events h new.modules p.kept p.stepped))));
      }
