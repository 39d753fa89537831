-- Modules and wires of width 1 when a module becomes active.
use Rattle.std.proofs.Common.{◌≡◌, ℕ, ◌+◌, ◌<◌, ◌≤◌, Bool, true, false, not, cond, nat_lt, List, [], Some, None, All, length, slice_index_or, refl, ap, sym, subst, ◌∙◌, arith, inl, inr}
use Rattle.std.specs.Prelude.{◌&&◌, ◌==◌}
use Rattle.std.proofs.lemmas.Bool.{cases_Bool, cases_lt, eqb-true, le-ltb}
use Rattle.std.proofs.lemmas.List.{get_or_past}
use Rattle.mp_records.specs.declared.ids.ModuleId.{ModuleId}
use Rattle.mp_records.specs.declared.module_record.ModuleRecord.{ModuleRecord}
use Rattle.mp_records.specs.Outputs.{delay_of}
use Rattle.mp_netlist.specs.declared.driver.Driver.TheVariants.{Port}
use Rattle.mp_netlist.specs.Circuit.{Circuit, IsCircuit, Drives, module_at, module_width}
use Rattle.mp_netlist.specs.Drivers.{driver}
use Rattle.mp_netlist.proofs.DriverLemmas.{finds_only_ports}
use Rattle.mp_modules.specs.automata.Codes.{bit}
use Rattle.mp_kernel.specs.declared.events.fanout_entry.FanoutEntry.{FanoutEntry}
use Rattle.mp_kernel.specs.events.Adding.{listed, state_at}
use Rattle.mp_kernel.specs.events.Firing.{HaveSlots}
use Rattle.mp_kernel.specs.events.Toggling.{wave_at}
use Rattle.mp_simulation.specs.declared.bits.simulator.Simulator.{Simulator}
use Rattle.mp_simulation.specs.declared.bits.delayed_copies.DelayedCopies.{DelayedCopies}
use Rattle.mp_simulation.specs.bits.Changes.{change_at}
use Rattle.mp_simulation.specs.bits.Simulators.{slot_at, IsSound}
use Rattle.mp_simulation.specs.bits.Simulations.{AreSoundCopies, IsFrom, IsSoundRun}
use Rattle.mp_simulation.specs.bits.Traces.{IsTrace}
use Rattle.mp_simulation.specs.bits.Units.{rest_state_at}
use Rattle.mp_simulation.proofs.lemmas.bits.ScheduleLemmas.{same_part}
use Rattle.mp_simulation.specs.declared.units.netlist_simulation.NetlistSimulation.{NetlistSimulation}
use Rattle.mp_simulation.specs.units.DataLevels.{is_data, is_bit_wire}
use Rattle.mp_simulation.specs.units.DataWheels.{driver_delay}
use Rattle.mp_active.specs.excerpt.Numberings.{Numbering, place_of}
use Rattle.mp_active.specs.excerpt.Levels.{shown_level, shown_delay, IsEventShown, IsCopyShown}
use Rattle.mp_active.specs.excerpt.Showing.{IsSeatShown, IsAsleep, AreBitsShown, Shows}
use Rattle.mp_active.specs.excerpt.Leaving.{is_port_of}
use Rattle.mp_active.specs.excerpt.Activating.{with_module, IsActivated}
use Rattle.mp_active.proofs.lemmas.excerpt.PlaceLemmas.{placed, wide_when}
use Rattle.mp_active.proofs.lemmas.excerpt.ActiveLemmas.{awake_here, same_with, place_with, delay_own, delay_with}
use Rattle.mp_active.proofs.lemmas.excerpt.StateLemmas.{IsRest, asleep_rests, adding_new, units_new, numbered_new}

none_left : (a b : Bool) → ((a && false) && b) ≡ false
none_left true b = refl
none_left false b = refl

module _ (n : Circuit) (ok : IsCircuit n) (active on : ℕ → Bool) (numbering : Numbering) (m t : ℕ) (r : ModuleRecord) (s new : NetlistSimulation)
    (at : module_at n m ≡ Some r) (shown : Shows n active on numbering t s) (made : IsActivated n active numbering m t r s new) where
  abbrev numbers : ℕ
  numbers = length s.bits.simulator.fanout

  abbrev mid : Simulator
  mid = record (s.bits.simulator) {
    outputs = new.bits.simulator.outputs;
    states = new.bits.simulator.states;
    levels = new.bits.simulator.levels;
    wheel = new.bits.simulator.wheel;
  }

  -- the module's record
  part_here : (k : ℕ) (q : ModuleRecord) → (k == m) ≡ true → module_at n k ≡ Some q → r ≡ q
  part_here k q here stands = same_part n m r q at (subst (λ j. module_at n j ≡ Some q) (eqb-true k m here) stands)

  -- ---- soundness
  pub same_fanout : new.bits.simulator.fanout ≡ s.bits.simulator.fanout
  same_fanout = ap (λ (x : Simulator). x.fanout) made.bits.simulator

  wire_past : (w : ℕ) → length s.bits.simulator.waves ≤ w → is_bit_wire n w ≡ false
  wire_past w past = ap (λ b. b && not (is_data n w)) (le-ltb w (length n.wires) (let same = shown.bits.wires in omega (arith, past, same)))

  none_waved : (w k : ℕ) → length s.bits.simulator.waves ≤ w → listed w (slice_index_or new.bits.simulator.wheel k []) ≡ 0
  none_waved w k past = elim (cases_lt k (length s.bits.simulator.wheel)) as (λ _. listed w (slice_index_or new.bits.simulator.wheel k []) ≡ 0) [
    | inl within ↦ made.bits.events w k within ∙ by (is_port_of m (driver n w))
    | inr beyond ↦ ap (listed w) (get_or_past new.bits.simulator.wheel k [] (let same = made.bits.units in omega (arith, beyond, same)))
  ]
    where
      by : (b : Bool) → cond b (bit ((change_at n w (t + 1 + k) && is_bit_wire n w) && nat_lt k (driver_delay n (driver n w)))) (listed w (slot_at s.bits.simulator k)) ≡ 0
      by true =
          ap (λ b. bit ((change_at n w (t + 1 + k) && b) && nat_lt k (driver_delay n (driver n w)))) (wire_past w past)
          ∙ ap bit (none_left (change_at n w (t + 1 + k)) (nat_lt k (driver_delay n (driver n w))))
      by false = shown.bits.sound.simulator.waved w k past

  rests : IsRest (state_at new.bits.simulator.states.items m)
  rests = elim (cases_Bool (module_width n r == 1)) as (λ _. IsRest (state_at new.bits.simulator.states.items m)) [
    | inl narrow ↦ (rest_state_at n r m t, refl, (made.bits.seat narrow).word)
    | inr wide ↦ asleep_rests (state_at new.bits.simulator.states.items m) (made.bits.sleeps wide)
  ]

  rest : (q : ℕ) → (q == m) ≡ true → IsRest (state_at new.bits.simulator.states.items q)
  rest q here = subst (λ k. IsRest (state_at new.bits.simulator.states.items k)) (sym (eqb-true q m here)) rests

  sound_mid : IsSound mid
  sound_mid =
      let old = shown.bits.sound.simulator in
      record {
        units = units_new s.bits.simulator.states.items new.bits.simulator.states.items s.bits.simulator.due.items (λ q. q == m) old.events shown.bits.idle rest made.bits.other_states old.units;
        numbered = numbered_new s.bits.simulator.states.items new.bits.simulator.states.items s.bits.simulator.due.items (λ q. q == m) old.events shown.bits.idle rest made.bits.other_states old.units
            made.bits.states old.numbered;
        events = adding_new s.bits.simulator.states.items new.bits.simulator.states.items s.bits.simulator.due.items (λ q. q == m) old.events shown.bits.idle rest made.bits.other_states;
        levels = made.bits.levels ∙ old.levels ∙ sym made.bits.states;
        outputs = made.bits.outputs ∙ old.outputs ∙ sym made.bits.states;
        rows = old.rows;
        placed = λ x k d within. let low = old.placed x k d within in let same = made.bits.states in omega (arith, low, same);
        eventful = old.eventful;
        some = let some = old.some in let same = made.bits.units in omega (arith, some, same);
        within = subst (λ k. All (HaveSlots k) new.bits.simulator.outputs) (sym made.bits.units) made.bits.slots;
        driven = made.bits.driven;
        waved = none_waved;
      }

  sound_run : IsSoundRun new.bits
  sound_run = record {
    simulator = subst IsSound (sym made.bits.simulator) sound_mid;
    copies = subst (λ (rows : List (List FanoutEntry)). AreSoundCopies (length rows) new.bits.copies) (sym same_fanout)
        (subst (λ (c : DelayedCopies). AreSoundCopies numbers c) (sym made.copies) shown.bits.sound.copies);
    behind = subst (λ (x : Simulator). All (IsFrom (length x.waves)) new.bits.copies.next.items) (sym made.bits.simulator)
        (subst (λ (c : DelayedCopies). All (IsFrom (length s.bits.simulator.waves)) c.next.items) (sym made.copies) shown.bits.sound.behind);
  }

  -- ---- modules and wires of width 1
  seat_else : (k : ℕ) (q : ModuleRecord) → (k == m) ≡ false → module_at n k ≡ Some q → place_of n (with_module active m) k ≡ Some k → IsSeatShown n numbering t k q new.bits.simulator
  seat_else k q other stands place =
      let seat = shown.bits.seats k q stands (sym (place_with n active m k other) ∙ place) in
      record {
        reads = seat.reads;
        numbers = seat.numbers;
        drives = made.bits.other_outputs k other ∙ seat.drives;
        word = made.bits.other_states k other ∙ seat.word;
        levels = made.bits.other_levels k other ∙ seat.levels;
      }

  seat_here : (k : ℕ) (q : ModuleRecord) → (k == m) ≡ true → module_at n k ≡ Some q → (module_width n q == 1) ≡ true → IsSeatShown n numbering t k q new.bits.simulator
  seat_here k q here stands narrow =
      let part = part_here k q here stands in
      subst (λ j. IsSeatShown n numbering t j q new.bits.simulator) (sym (eqb-true k m here))
      (subst (λ (x : ModuleRecord). IsSeatShown n numbering t m x new.bits.simulator) part
      (made.bits.seat (subst (λ (x : ModuleRecord). (module_width n x == 1) ≡ true) (sym part) narrow)))

  seat_made : (k : ℕ) (q : ModuleRecord) → module_at n k ≡ Some q → place_of n (with_module active m) k ≡ Some k → IsSeatShown n numbering t k q new.bits.simulator
  seat_made k q stands place = elim (cases_Bool (k == m)) as (λ _. IsSeatShown n numbering t k q new.bits.simulator) [
    | inl here ↦ seat_here k q here stands (placed n (with_module active m) k k q stands place).narrow
    | inr other ↦ seat_else k q other stands place
  ]

  -- the module has data where it has no place
  pub wide_here : (k : ℕ) → (k == m) ≡ true → place_of n (with_module active m) k ≡ None → (module_width n r == 1) ≡ false
  wide_here k here none =
      let same = eqb-true k m here in
      wide_when n (with_module active m) m r at (subst (λ j. with_module active m j ≡ true) same (awake_here n active m k here)) (subst (λ j. place_of n (with_module active m) j ≡ None) same none)

  asleep_made : (q : ℕ) → q < length n.modules → place_of n (with_module active m) q ≡ None → IsAsleep (state_at new.bits.simulator.states.items q)
  asleep_made q within none = elim (cases_Bool (q == m)) as (λ _. IsAsleep (state_at new.bits.simulator.states.items q)) [
    | inl here ↦ subst (λ k. IsAsleep (state_at new.bits.simulator.states.items k)) (sym (eqb-true q m here)) (made.bits.sleeps (wide_here q here none))
    | inr other ↦ subst IsAsleep (sym (made.bits.other_states q other)) (shown.bits.asleep q within (sym (place_with n active m q other) ∙ none))
  ]

  room_made : (w p : ℕ) (k : ModuleId) (q : ModuleRecord) → driver n w ≡ Port k p → with_module active m k.0 ≡ true → module_at n k.0 ≡ Some q → delay_of q p ≤ length new.bits.simulator.wheel
  room_made w p k q drives awake stands = elim (cases_Bool (k.0 == m)) as (λ _. delay_of q p ≤ length new.bits.simulator.wheel) [
    | inl here ↦
        let drv : Drives n m p w = subst (λ j. Drives n j p w) (eqb-true k.0 m here) (finds_only_ports n w p k drives) in
        let enough : delay_of q p ≤ length s.bits.simulator.wheel = subst (λ (x : ModuleRecord). delay_of x p ≤ length s.bits.simulator.wheel) (part_here k.0 q here stands) (made.bits.room w p drv) in
        let same = made.bits.units in
        omega (arith, enough, same)
    | inr other ↦
        let enough = shown.bits.room w p k q drives (sym (same_with n active m k.0 other) ∙ awake) stands in
        let same = made.bits.units in
        omega (arith, enough, same)
  ]

  event_by : (w k : ℕ) (b : Bool) → k < length s.bits.simulator.wheel → is_port_of m (driver n w) ≡ b →
      cond b (bit ((change_at n w (t + 1 + k) && is_bit_wire n w) && nat_lt k (driver_delay n (driver n w)))) (listed w (slot_at s.bits.simulator k))
      ≡ bit ((change_at n w (t + 1 + k) && is_bit_wire n w) && nat_lt k (shown_delay n (with_module active m) (driver n w)))
  event_by w k true within is = ap (λ d. bit ((change_at n w (t + 1 + k) && is_bit_wire n w) && nat_lt k d)) (delay_own n active m (driver n w) is)
  event_by w k false within is = shown.bits.events w k within ∙ ap (λ d. bit ((change_at n w (t + 1 + k) && is_bit_wire n w) && nat_lt k d)) (delay_with n active m (driver n w) is)

  event_made : (w k : ℕ) → k < length new.bits.simulator.wheel → IsEventShown n (with_module active m) t new.bits.simulator w k
  event_made w k within =
      let inside : k < length s.bits.simulator.wheel = let same = made.bits.units in omega (arith, within, same) in
      made.bits.events w k inside ∙ event_by w k (is_port_of m (driver n w)) inside refl

  copy_kept : (x k : ℕ) → k < length new.bits.copies.wheel → IsCopyShown n on numbering t new.bits.copies x k
  copy_kept x k within =
      let same = ap (λ (c : DelayedCopies). length c.wheel) made.copies in
      subst (λ (c : DelayedCopies). IsCopyShown n on numbering t c x k) (sym made.copies) (shown.bits.copies x k (omega (arith, within, same)))

  pub bits_made : AreBitsShown n (with_module active m) on numbering t new
  bits_made = record {
    sound = sound_run;
    places = made.bits.states ∙ shown.bits.places;
    wires = ap (λ (x : Simulator). length x.waves) made.bits.simulator ∙ shown.bits.wires;
    idle = ap (λ (x : Simulator). x.due.items) made.bits.simulator ∙ shown.bits.idle;
    seats = seat_made;
    asleep = asleep_made;
    traces = λ w narrow. subst (λ (x : Simulator). IsTrace (shown_level n on w) t (wave_at x.waves w)) (sym made.bits.simulator) (shown.bits.traces w narrow);
    room = room_made;
    events = event_made;
    copies = copy_kept;
  }
