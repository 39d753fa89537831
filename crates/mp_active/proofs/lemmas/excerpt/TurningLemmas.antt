-- What a simulation has when a wire is turned on.
use Rattle.std.proofs.Common.{◌≡◌, ℕ, ◌+◌, ◌<◌, Bool, true, false, cond, nat_lt, List, [], Option, Some, None, All, length, slice_index, slice_index_or, refl, ap, sym, subst, ◌∙◌, arith, inl, inr}
use Rattle.std.specs.Prelude.{◌&&◌, ◌||◌, ◌==◌}
use Rattle.std.proofs.lemmas.Bool.{cases_Bool, cases_lt, eqb-true, or_right, le-ltb, and_right}
use Rattle.std.proofs.lemmas.List.{get_or_past}
use Rattle.mp_wave.specs.Waveform.{Waveform, wave_upto}
use Rattle.mp_wave.specs.Building.{Building}
use Rattle.mp_records.specs.declared.module_record.ModuleRecord.{ModuleRecord}
use Rattle.mp_netlist.specs.declared.driver.Driver.{Driver}
use Rattle.mp_netlist.specs.declared.driver.Driver.TheVariants.{Nothing, Stimulus, Port}
use Rattle.mp_netlist.specs.Circuit.{Circuit, IsCircuit, module_at, wire_at}
use Rattle.mp_netlist.specs.Drivers.{driver}
use Rattle.mp_netlist.proofs.DriverLemmas.{finds_only_ports}
use Rattle.mp_model.specs.Evaluations.{delay_in}
use Rattle.mp_model.specs.Levels.{initial_of}
use Rattle.mp_model.specs.Waves.{level}
use Rattle.mp_modules.specs.automata.Codes.{bit}
use Rattle.mp_kernel.specs.declared.events.output_port.OutputPort.{OutputPort}
use Rattle.mp_kernel.specs.declared.events.fanout_entry.FanoutEntry.{FanoutEntry}
use Rattle.mp_kernel.specs.events.Adding.{listed, state_at}
use Rattle.mp_kernel.specs.events.Toggling.{wave_at}
use Rattle.mp_kernel.specs.events.Firing.{HasSlot}
use Rattle.mp_simulation.specs.declared.bits.simulator.Simulator.{Simulator}
use Rattle.mp_simulation.specs.bits.Changes.{late_change}
use Rattle.mp_simulation.specs.bits.Copies.{AreChained, AreListedBelow, later_by}
use Rattle.mp_simulation.specs.bits.Simulators.{IsBelow, AreBelow, IsSound}
use Rattle.mp_simulation.specs.bits.Simulations.{copy_slot, AreSoundCopies, IsFrom, IsSoundRun}
use Rattle.mp_simulation.specs.bits.Traces.{IsTrace}
use Rattle.mp_simulation.specs.declared.units.data_modules.DataModules.{DataModules}
use Rattle.mp_simulation.specs.declared.units.netlist_simulation.NetlistSimulation.{NetlistSimulation}
use Rattle.mp_simulation.specs.units.DataLevels.{is_data, is_bit_wire, late_level, changes_of}
use Rattle.mp_simulation.specs.units.DataWaves.{building_at}
use Rattle.mp_simulation.specs.units.DataWheels.{data_slot}
use Rattle.mp_active.specs.excerpt.Excerpts.{ArePortsOn}
use Rattle.mp_active.specs.excerpt.Numberings.{Numbering, place_of}
use Rattle.mp_active.specs.excerpt.Levels.{shown_level, shown_late, shown_change, shown_delay, shown_ahead, IsEventShown, IsCopyShown, IsChangeShown}
use Rattle.mp_active.specs.excerpt.Showing.{IsSeatShown, IsAsleep, AreBitsShown, AreWiresShown, AreModulesShown, Shows}
use Rattle.mp_active.specs.excerpt.Turning.{with_wire, IsTurnedOn, TurningShows}
use Rattle.mp_partition.proofs.lemmas.regions.PartLemmas.{same_wave}
use Rattle.mp_active.proofs.lemmas.excerpt.TraceLemmas.{trace_as}
use Rattle.mp_active.proofs.lemmas.excerpt.TestLemmas.{or_false, no_tests}
use Rattle.mp_active.proofs.lemmas.excerpt.CopyLemmas.{none_before}
use Rattle.mp_active.proofs.lemmas.excerpt.KeptLemmas.{numbers_kept}

module _ (n : Circuit) (ok : IsCircuit n) (active on : ℕ → Bool) (ports : ArePortsOn n active on) (numbering : Numbering) (w t : ℕ) (s new : NetlistSimulation)
    (shown : Shows n active on numbering t s) (off : on w ≡ false) (turned : IsTurnedOn n numbering w t s new) where
  abbrev numbers : ℕ
  numbers = length s.bits.simulator.fanout

  abbrev mid : Simulator
  mid = record (s.bits.simulator) { waves = new.bits.simulator.waves }

  -- ---- what is on
  on_here : (v : ℕ) → (v == w) ≡ true → with_wire on w v ≡ true
  on_here v here = ap (λ b. on v || b) here ∙ or_right (on v) true refl

  on_else : (v : ℕ) → (v == w) ≡ false → with_wire on w v ≡ on v
  on_else v other = ap (λ b. on v || b) other ∙ or_false (on v)

  level_here : (v u : ℕ) → (v == w) ≡ true → level n v u ≡ shown_level n (with_wire on w) v u
  level_here v u here = sym (ap (λ b. cond b (level n v u) (initial_of (wire_at n v))) (on_here v here))

  level_else : (v u : ℕ) → (v == w) ≡ false → shown_level n on v u ≡ shown_level n (with_wire on w) v u
  level_else v u other = sym (ap (λ b. cond b (level n v u) (initial_of (wire_at n v))) (on_else v other))

  -- no active module drives it
  delay_off : (d : Driver) → driver n w ≡ d → shown_delay n active d ≡ 0
  delay_off Nothing e = refl
  delay_off Stimulus e = refl
  delay_off (Port m p) e = elim (cases_Bool (active m.0)) as (λ _. cond (active m.0) (delay_in (module_at n m.0) p) 0 ≡ 0) [
    | inl awake ↦ let is = ports.driven m.0 p w awake (finds_only_ports n w p m e) in let no : ⊥ = cc in absurd no
    | inr asleep ↦ ap (λ b. cond b (delay_in (module_at n m.0) p) 0) asleep
  ]

  -- ---- soundness
  same_fanout : new.bits.simulator.fanout ≡ s.bits.simulator.fanout
  same_fanout = ap (λ (x : Simulator). x.fanout) turned.simulator

  sound_mid : IsSound mid
  sound_mid =
      let old = shown.bits.sound.simulator in
      record {
        units = old.units;
        numbered = old.numbered;
        events = old.events;
        levels = old.levels;
        outputs = old.outputs;
        rows = let few = old.rows in let same = turned.traces in omega (arith, few, same);
        placed = old.placed;
        eventful = old.eventful;
        some = old.some;
        within = old.within;
        driven = subst (λ k. All (AreBelow k) s.bits.simulator.outputs) (sym turned.traces) old.driven;
        waved = λ v k past. old.waved v k (let same = turned.traces in omega (arith, past, same));
      }

  low_copies : AreListedBelow numbers new.bits.copies.wheel
  low_copies x k past = elim (cases_lt k (length s.bits.copies.wheel)) as (λ _. listed x (slice_index_or new.bits.copies.wheel k []) ≡ 0) [
    | inl within ↦ turned.copies x k within ∙ by within ((numbering.source x).0 == w)
    | inr beyond ↦ ap (listed x) (get_or_past new.bits.copies.wheel k [] (let same = turned.copy_units in omega (arith, beyond, same)))
  ]
    where
      late : Bool
      late = late_change n (numbering.source x) (t + 1 + k)

      none : nat_lt k (later_by s.bits.copies.next.items (numbering.before x)) ≡ false
      none =
          ap (nat_lt k) (none_before numbering.source numbering.before s.bits.copies.next.items numbers x (numbering.before x) shown.numbers.chained shown.bits.sound.copies.below past refl)
          ∙ le-ltb k 0 (omega arith)

      by : k < length s.bits.copies.wheel → (b : Bool)
          → cond b (bit (late_change n (numbering.source x) (t + 1 + k) && nat_lt k (later_by s.bits.copies.next.items (numbering.before x)))) (listed x (copy_slot s.bits.copies k)) ≡ 0
      by within true = ap (λ c. bit (late_change n (numbering.source x) (t + 1 + k) && c)) none ∙ ap bit (and_right (late_change n (numbering.source x) (t + 1 + k)) false refl)
      by within false = shown.bits.sound.copies.numbered x k past

  sound_copies : AreSoundCopies numbers new.bits.copies
  sound_copies =
      let old = shown.bits.sound.copies in
      record {
        next = ap (length {A = OutputPort}) turned.next ∙ old.next;
        some = let some = old.some in let same = turned.copy_units in omega (arith, some, same);
        within = subst (λ (xs : List OutputPort). All (HasSlot (length new.bits.copies.wheel)) xs) (sym turned.next)
            (subst (λ k. All (HasSlot k) s.bits.copies.next.items) (sym turned.copy_units) old.within);
        below = subst (λ (xs : List OutputPort). All (IsBelow numbers) xs) (sym turned.next) old.below;
        numbered = low_copies;
      }

  sound_run : IsSoundRun new.bits
  sound_run = record {
    simulator = subst IsSound (sym turned.simulator) sound_mid;
    copies = subst (λ (rows : List (List FanoutEntry)). AreSoundCopies (length rows) new.bits.copies) (sym same_fanout) sound_copies;
    behind = subst (λ k. All (IsFrom k) new.bits.copies.next.items) (sym turned.traces)
        (subst (λ (xs : List OutputPort). All (IsFrom (length s.bits.simulator.waves)) xs) (sym turned.next) shown.bits.sound.behind);
  }

  -- ---- modules and wires of width 1
  seat_kept : (m : ℕ) (r : ModuleRecord) → module_at n m ≡ Some r → place_of n active m ≡ Some m → IsSeatShown n numbering t m r new.bits.simulator
  seat_kept m r at place =
      let seat = shown.bits.seats m r at place in
      subst (λ (x : Simulator). IsSeatShown n numbering t m r x) (sym turned.simulator) (record { reads = seat.reads; numbers = seat.numbers; drives = seat.drives; word = seat.word; levels = seat.levels })

  trace_turned : (v : ℕ) → is_bit_wire n v ≡ true → IsTrace (shown_level n (with_wire on w) v) t (wave_at new.bits.simulator.waves v)
  trace_turned v narrow = elim (cases_Bool (v == w)) as (λ _. IsTrace (shown_level n (with_wire on w) v) t (wave_at new.bits.simulator.waves v)) [
    | inl here ↦
        let same : v ≡ w = eqb-true v w here in
        trace_as (level n v) (shown_level n (with_wire on w) v) t (wave_at new.bits.simulator.waves v) (λ u. level_here v u here)
        (subst (λ k. IsTrace (level n k) t (wave_at new.bits.simulator.waves k)) (sym same) (turned.trace (subst (λ k. is_bit_wire n k ≡ true) same narrow)))
    | inr other ↦
        subst (λ (wave : Waveform). IsTrace (shown_level n (with_wire on w) v) t wave) (sym (turned.other_traces v other))
        (trace_as (shown_level n on v) (shown_level n (with_wire on w) v) t (wave_at s.bits.simulator.waves v) (λ u. level_else v u other) (shown.bits.traces v narrow))
  ]

  event_kept : (v k : ℕ) → k < length new.bits.simulator.wheel → IsEventShown n active t new.bits.simulator v k
  event_kept v k within =
      let same = ap (λ (x : Simulator). length x.wheel) turned.simulator in
      subst (λ (x : Simulator). IsEventShown n active t x v k) (sym turned.simulator) (shown.bits.events v k (omega (arith, within, same)))

  copy_by : (x k : ℕ) (b : Bool) → k < length s.bits.copies.wheel → ((numbering.source x).0 == w) ≡ b →
      cond b (bit (late_change n (numbering.source x) (t + 1 + k) && nat_lt k (later_by s.bits.copies.next.items (numbering.before x)))) (listed x (copy_slot s.bits.copies k))
      ≡ bit (shown_change n (with_wire on w) (numbering.source x) (t + 1 + k) && nat_lt k (later_by s.bits.copies.next.items (numbering.before x)))
  copy_by x k true within here =
      sym (ap (λ b. bit ((b && late_change n (numbering.source x) (t + 1 + k)) && nat_lt k (later_by s.bits.copies.next.items (numbering.before x)))) (on_here (numbering.source x).0 here))
  copy_by x k false within other =
      shown.bits.copies x k within
      ∙ sym (ap (λ b. bit ((b && late_change n (numbering.source x) (t + 1 + k)) && nat_lt k (later_by s.bits.copies.next.items (numbering.before x)))) (on_else (numbering.source x).0 other))

  copy_turned : (x k : ℕ) → k < length new.bits.copies.wheel → IsCopyShown n (with_wire on w) numbering t new.bits.copies x k
  copy_turned x k within =
      let inside : k < length s.bits.copies.wheel = let same = turned.copy_units in omega (arith, within, same) in
      turned.copies x k inside
      ∙ copy_by x k ((numbering.source x).0 == w) inside refl
      ∙ ap (λ (xs : List OutputPort). bit (shown_change n (with_wire on w) (numbering.source x) (t + 1 + k) && nat_lt k (later_by xs (numbering.before x)))) (sym turned.next)

  bits_turned : AreBitsShown n active (with_wire on w) numbering t new
  bits_turned = record {
    sound = sound_run;
    places = ap (λ (x : Simulator). length x.states.items) turned.simulator ∙ shown.bits.places;
    wires = turned.traces ∙ shown.bits.wires;
    idle = ap (λ (x : Simulator). x.due.items) turned.simulator ∙ shown.bits.idle;
    seats = seat_kept;
    asleep = λ q within none. subst (λ (x : Simulator). IsAsleep (state_at x.states.items q)) (sym turned.simulator) (shown.bits.asleep q within none);
    traces = trace_turned;
    room = λ v p m r drives awake at.
        let same = ap (λ (x : Simulator). length x.wheel) turned.simulator in let enough = shown.bits.room v p m r drives awake at in omega (arith, same, enough);
    events = event_kept;
    copies = copy_turned;
  }

  -- ---- wires with data
  ahead_here : (x : ℕ) (o : Option ℕ) (k : ℕ) (late : Bool) → ((numbering.source x).0 == w) ≡ true → (is_data n (numbering.source x).0 ≡ true → o ≡ None → numbering.source x ≡ (x, 0)) →
      ((late && is_data n (numbering.source x).0) && nat_lt k (later_by s.wires.next.items o)) ≡ ((late && is_data n (numbering.source x).0) && nat_lt k (shown_ahead n active s.wires.next.items x o))
  ahead_here x (Some y) k late here own = refl
  ahead_here x None k late here own = elim (cases_Bool (is_data n (numbering.source x).0)) as (λ _.
      ((late && is_data n (numbering.source x).0) && nat_lt k 0) ≡ ((late && is_data n (numbering.source x).0) && nat_lt k (shown_delay n active (driver n x)))) [
        | inl wide ↦
            let same : x ≡ w = sym (ap (λ (v : ℕ × ℕ). v.0) (own wide refl)) ∙ eqb-true (numbering.source x).0 w here in
            ap (λ d. (late && is_data n (numbering.source x).0) && nat_lt k d) (sym (ap (λ v. shown_delay n active (driver n v)) same ∙ delay_off (driver n w) refl))
        | inr narrow ↦ no_tests late (is_data n (numbering.source x).0) (nat_lt k 0) late (is_data n (numbering.source x).0) (nat_lt k (shown_delay n active (driver n x))) narrow narrow
      ]

  change_by : (x k : ℕ) (b : Bool) → x < numbers → k < length s.wires.wheel → ((numbering.source x).0 == w) ≡ b →
      cond b (bit ((late_change n (numbering.source x) (t + 1 + k) && is_data n (numbering.source x).0) && nat_lt k (later_by s.wires.next.items (numbering.data_before x)))) (changes_of x (data_slot s.wires.wheel k))
      ≡ bit ((shown_change n (with_wire on w) (numbering.source x) (t + 1 + k) && is_data n (numbering.source x).0) && nat_lt k (shown_ahead n active s.wires.next.items x (numbering.data_before x)))
  change_by x k true low within here =
      ap bit (ahead_here x (numbering.data_before x) k (late_change n (numbering.source x) (t + 1 + k)) here (shown.numbers.with_data x low))
      ∙ sym (ap (λ b. bit (((b && late_change n (numbering.source x) (t + 1 + k)) && is_data n (numbering.source x).0) && nat_lt k (shown_ahead n active s.wires.next.items x (numbering.data_before x))))
      (on_here (numbering.source x).0 here))
  change_by x k false low within other =
      shown.wires.changes x k low within
      ∙ sym (ap (λ b. bit (((b && late_change n (numbering.source x) (t + 1 + k)) && is_data n (numbering.source x).0) && nat_lt k (shown_ahead n active s.wires.next.items x (numbering.data_before x))))
      (on_else (numbering.source x).0 other))

  change_turned : (x k : ℕ) → x < numbers → k < length new.wires.wheel → IsChangeShown n active (with_wire on w) numbering new.wires.next.items t new.wires.wheel x k
  change_turned x k low within =
      let inside : k < length s.wires.wheel = let same = turned.change_units in omega (arith, within, same) in
      turned.changes x k low inside
      ∙ change_by x k ((numbering.source x).0 == w) low inside refl
      ∙ ap (λ (xs : List OutputPort). bit ((shown_change n (with_wire on w) (numbering.source x) (t + 1 + k) && is_data n (numbering.source x).0) && nat_lt k (shown_ahead n active xs x (numbering.data_before x))))
      (sym turned.data_next)

  level_by : (x : ℕ) (b : Bool) → x < numbers → ((numbering.source x).0 == w) ≡ b →
      cond b (late_level n (numbering.source x) t) (slice_index s.wires.levels.items x) ≡ shown_late n (with_wire on w) (numbering.source x) t
  level_by x true low here = sym (ap (λ b. cond b (late_level n (numbering.source x) t) (initial_of (wire_at n (numbering.source x).0))) (on_here (numbering.source x).0 here))
  level_by x false low other =
      shown.wires.levels x low ∙ sym (ap (λ b. cond b (late_level n (numbering.source x) t) (initial_of (wire_at n (numbering.source x).0))) (on_else (numbering.source x).0 other))

  wave_turned : (v : ℕ) → is_data n v ≡ true → (building_at new.wires.waves.items v).wave ≡ wave_upto (shown_level n (with_wire on w) v) t
  wave_turned v wide = elim (cases_Bool (v == w)) as (λ _. (building_at new.wires.waves.items v).wave ≡ wave_upto (shown_level n (with_wire on w) v) t) [
    | inl here ↦
        let same : v ≡ w = eqb-true v w here in
        subst (λ k. (building_at new.wires.waves.items k).wave ≡ wave_upto (level n k) t) (sym same) (turned.wave (subst (λ k. is_data n k ≡ true) same wide))
        ∙ same_wave (level n v) (shown_level n (with_wire on w) v) t (λ u before. level_here v u here)
    | inr other ↦
        ap (λ (b : Building). b.wave) (turned.other_waves v other)
        ∙ shown.wires.waves v wide
        ∙ same_wave (shown_level n on v) (shown_level n (with_wire on w) v) t (λ u before. level_else v u other)
  ]

  over_turned : (v : ℕ) → (building_at new.wires.waves.items v).next < t + 2
  over_turned v = elim (cases_Bool (v == w)) as (λ _. (building_at new.wires.waves.items v).next < t + 2) [
    | inl here ↦ subst (λ k. (building_at new.wires.waves.items k).next < t + 2) (sym (eqb-true v w here)) turned.over
    | inr other ↦ subst (λ (b : Building). b.next < t + 2) (sym (turned.other_waves v other)) (shown.wires.over v)
  ]

  wires_turned : AreWiresShown n active (with_wire on w) numbering numbers t new.wires
  wires_turned =
      let old = shown.wires in
      record {
        places = turned.numbers ∙ old.places;
        next = ap (length {A = OutputPort}) turned.data_next ∙ old.next;
        chained = subst (λ (xs : List OutputPort). AreChained numbering.source numbering.data_before xs) (sym turned.data_next) old.chained;
        below = subst (λ (xs : List OutputPort). All (IsBelow numbers) xs) (sym turned.data_next) old.below;
        within = subst (λ (xs : List OutputPort). All (HasSlot (length new.wires.wheel)) xs) (sym turned.data_next)
            (subst (λ k. All (HasSlot k) s.wires.next.items) (sym turned.change_units) old.within);
        some = let some = old.some in let same = turned.change_units in omega (arith, some, same);
        numbered = turned.numbered;
        changes = change_turned;
        change_levels = turned.change_levels;
        levels = λ x low. turned.levels x low ∙ level_by x ((numbering.source x).0 == w) low refl;
        wires = turned.waves ∙ old.wires;
        waves = wave_turned;
        over = over_turned;
      }

  turning : Shows n active (with_wire on w) numbering t new
  turning =
      let units : length new.bits.simulator.wheel ≡ length s.bits.simulator.wheel = ap (λ (x : Simulator). length x.wheel) turned.simulator in
      let kept : AreModulesShown n active numbering numbers (length s.bits.simulator.wheel) (length new.wires.wheel) t new.modules =
      subst (λ k. AreModulesShown n active numbering numbers (length s.bits.simulator.wheel) k t new.modules) (sym turned.change_units)
      (subst (λ (x : DataModules). AreModulesShown n active numbering numbers (length s.bits.simulator.wheel) (length s.wires.wheel) t x) (sym turned.modules) shown.modules) in
      record {
        numbers = numbers_kept n numbering s new same_fanout turned.next shown.numbers;
        bits = bits_turned;
        wires = subst (λ (rows : List (List FanoutEntry)). AreWiresShown n active (with_wire on w) numbering (length rows) t new.wires) (sym same_fanout) wires_turned;
        modules = subst (λ (rows : List (List FanoutEntry)). AreModulesShown n active numbering (length rows) (length new.bits.simulator.wheel) (length new.wires.wheel) t new.modules) (sym same_fanout)
            (subst (λ k. AreModulesShown n active numbering numbers k (length new.wires.wheel) t new.modules) (sym units) kept);
      }

pub turning_shows : TurningShows
turning_shows = turning
