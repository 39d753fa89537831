-- What a simulation has when modules are put to sleep.
use Rattle.std.proofs.Common.{◌≡◌, ℕ, ◌+◌, ◌<◌, ◌≤◌, Bool, true, false, cond, nat_lt, List, [], Option, Some, None, is_some, All, length, slice_index_or, refl, ap, sym, subst, ◌∙◌, arith, inl, inr}
use Rattle.std.specs.Prelude.{◌&&◌}
use Rattle.std.proofs.lemmas.Bool.{cases_Bool, cases_lt, ltb-true, ltb-false, le-ltb, and_parts, and_cases, and_right}
use Rattle.std.proofs.lemmas.List.{get_or_past}
use Rattle.std.proofs.lemmas.Option.{none-some}
use Rattle.mp_records.specs.declared.module_record.ModuleRecord.{ModuleRecord}
use Rattle.mp_netlist.specs.declared.driver.Driver.{Driver}
use Rattle.mp_netlist.specs.Circuit.{Circuit, IsCircuit, module_at}
use Rattle.mp_netlist.specs.Drivers.{driver}
use Rattle.mp_modules.specs.declared.automata.automaton_state.AutomatonState.{AutomatonState}
use Rattle.mp_modules.specs.automata.Codes.{bit}
use Rattle.mp_kernel.specs.declared.events.fanout_entry.FanoutEntry.{FanoutEntry}
use Rattle.mp_kernel.specs.events.Adding.{listed, state_at}
use Rattle.mp_kernel.specs.events.Firing.{HasSlot, HaveSlots}
use Rattle.mp_kernel.specs.events.Toggling.{wave_at}
use Rattle.mp_simulation.specs.declared.bits.simulator.Simulator.{Simulator}
use Rattle.mp_simulation.specs.declared.bits.delayed_copies.DelayedCopies.{DelayedCopies}
use Rattle.mp_simulation.specs.bits.Changes.{change_at}
use Rattle.mp_simulation.specs.bits.Simulators.{slot_at, IsSound}
use Rattle.mp_simulation.specs.bits.Traces.{IsTrace}
use Rattle.mp_simulation.specs.bits.Simulations.{AreSoundCopies, IsFrom, IsSoundRun}
use Rattle.mp_kernel.specs.datapath.DataFiring.{place_at, ArePlaced}
use Rattle.mp_simulation.specs.declared.units.data_modules.DataModules.{DataModules}
use Rattle.mp_simulation.specs.declared.units.data_wires.DataWires.{DataWires}
use Rattle.mp_simulation.specs.declared.units.netlist_simulation.NetlistSimulation.{NetlistSimulation}
use Rattle.mp_simulation.specs.units.DataLevels.{is_data, is_bit_wire, changes_of}
use Rattle.mp_simulation.specs.units.DataWheels.{data_slot}
use Rattle.mp_active.specs.excerpt.Numberings.{Numbering, place_of}
use Rattle.mp_active.specs.excerpt.Levels.{shown_level, shown_change, shown_delay, shown_ahead, IsEventShown, IsCopyShown, IsChangeShown}
use Rattle.mp_active.specs.excerpt.Showing.{IsSeatShown, IsAsleep, AreBitsShown, AreWiresShown, IsDataSeatShown, AreModulesShown, Shows}
use Rattle.mp_active.specs.excerpt.Leaving.{without, is_port_in, HaveLeft, LeavingShows}
use Rattle.mp_active.proofs.lemmas.excerpt.PlaceLemmas.{placed}
use Rattle.mp_active.proofs.lemmas.excerpt.KeptLemmas.{numbers_kept, copies_undriven_in}
use Rattle.mp_active.proofs.lemmas.excerpt.ActiveLemmas.{other_is, same_without, place_without, delay_without}
use Rattle.mp_active.proofs.lemmas.excerpt.StateLemmas.{IsRest, asleep_rests, adding_new, units_new, numbered_new}

module _ (n : Circuit) (ok : IsCircuit n) (active on : ℕ → Bool) (numbering : Numbering) (leaving : ℕ → Bool) (t : ℕ) (s new : NetlistSimulation)
    (shown : Shows n active on numbering t s) (left : HaveLeft n numbering leaving t s new) where
  abbrev numbers : ℕ
  numbers = length s.bits.simulator.fanout

  abbrev mid : Simulator
  mid = record (s.bits.simulator) { states = new.bits.simulator.states; wheel = new.bits.simulator.wheel }

  abbrev mid_wires : DataWires
  mid_wires = record (s.wires) { wheel = new.wires.wheel }

  abbrev mid_modules : DataModules
  mid_modules = record (s.modules) { places = new.modules.places }

  -- ---- soundness
  same_fanout : new.bits.simulator.fanout ≡ s.bits.simulator.fanout
  same_fanout = ap (λ (x : Simulator). x.fanout) left.simulator

  none_waved : (w k : ℕ) → length s.bits.simulator.waves ≤ w → listed w (slice_index_or new.bits.simulator.wheel k []) ≡ 0
  none_waved w k past = elim (cases_lt k (length s.bits.simulator.wheel)) as (λ _. listed w (slice_index_or new.bits.simulator.wheel k []) ≡ 0) [
    | inl within ↦ left.events w k within ∙ by (is_port_in leaving (driver n w))
    | inr beyond ↦ ap (listed w) (get_or_past new.bits.simulator.wheel k [] (let same = left.units in omega (arith, beyond, same)))
  ]
    where
      by : (b : Bool) → cond b 0 (listed w (slot_at s.bits.simulator k)) ≡ 0
      by true = refl
      by false = shown.bits.sound.simulator.waved w k past

  -- a module that stands nowhere has no state
  abbrev moved : ℕ → Bool
  moved q = leaving q && nat_lt q (length n.modules)

  rest : (q : ℕ) → moved q ≡ true → IsRest (state_at new.bits.simulator.states.items q)
  rest q is =
      let parts = and_parts (leaving q) (nat_lt q (length n.modules)) is in
      asleep_rests (state_at new.bits.simulator.states.items q) (left.asleep q (ltb-true q (length n.modules) parts.1) parts.0)

  beyond : (q : ℕ) → length n.modules ≤ q → state_at new.bits.simulator.states.items q ≡ state_at s.bits.simulator.states.items q
  beyond q past =
      let same = left.states in
      let places = shown.bits.places in
      ap (λ (x : AutomatonState). x.0)
      (get_or_past new.bits.simulator.states.items q (record { 0 = 0 }) (omega (arith, past, same, places)) ∙ sym (get_or_past s.bits.simulator.states.items q (record { 0 = 0 }) (omega (arith, past, places))))

  others : (q : ℕ) → moved q ≡ false → state_at new.bits.simulator.states.items q ≡ state_at s.bits.simulator.states.items q
  others q is = elim (and_cases (leaving q) (nat_lt q (length n.modules)) is) as (λ _. state_at new.bits.simulator.states.items q ≡ state_at s.bits.simulator.states.items q) [
    | inl other ↦ left.other_states q other
    | inr past ↦ beyond q (ltb-false q (length n.modules) past)
  ]

  sound_mid : IsSound mid
  sound_mid =
      let old = shown.bits.sound.simulator in
      record {
        units = units_new s.bits.simulator.states.items new.bits.simulator.states.items s.bits.simulator.due.items moved old.events shown.bits.idle rest others old.units;
        numbered = numbered_new s.bits.simulator.states.items new.bits.simulator.states.items s.bits.simulator.due.items moved old.events shown.bits.idle rest others old.units left.states old.numbered;
        events = adding_new s.bits.simulator.states.items new.bits.simulator.states.items s.bits.simulator.due.items moved old.events shown.bits.idle rest others;
        levels = old.levels ∙ sym left.states;
        outputs = old.outputs ∙ sym left.states;
        rows = old.rows;
        placed = λ x k d within. let low = old.placed x k d within in let same = left.states in omega (arith, low, same);
        eventful = old.eventful;
        some = let some = old.some in let same = left.units in omega (arith, some, same);
        within = subst (λ k. All (HaveSlots k) s.bits.simulator.outputs) (sym left.units) old.within;
        driven = old.driven;
        waved = none_waved;
      }

  sound_run : IsSoundRun new.bits
  sound_run = record {
    simulator = subst IsSound (sym left.simulator) sound_mid;
    copies = subst (λ (rows : List (List FanoutEntry)). AreSoundCopies (length rows) new.bits.copies) (sym same_fanout)
        (subst (λ (c : DelayedCopies). AreSoundCopies numbers c) (sym left.copies) shown.bits.sound.copies);
    behind = subst (λ (x : Simulator). All (IsFrom (length x.waves)) new.bits.copies.next.items) (sym left.simulator)
        (subst (λ (c : DelayedCopies). All (IsFrom (length s.bits.simulator.waves)) c.next.items) (sym left.copies) shown.bits.sound.behind);
  }

  -- ---- modules and wires of width 1
  seat_kept : (k : ℕ) (r : ModuleRecord) → module_at n k ≡ Some r → place_of n (without active leaving) k ≡ Some k → IsSeatShown n numbering t k r new.bits.simulator
  seat_kept k r at place =
      let here = other_is n active leaving k (placed n (without active leaving) k k r at place).awake in
      let seat = shown.bits.seats k r at (sym (place_without n active leaving k here.other) ∙ place) in
      subst (λ (x : Simulator). IsSeatShown n numbering t k r x) (sym left.simulator)
      (record { reads = seat.reads; numbers = seat.numbers; drives = seat.drives; word = left.other_states k here.other ∙ seat.word; levels = seat.levels })

  asleep_left : (q : ℕ) → q < length n.modules → place_of n (without active leaving) q ≡ None → IsAsleep (state_at new.bits.simulator.states.items q)
  asleep_left q within none = elim (cases_Bool (leaving q)) as (λ _. IsAsleep (state_at new.bits.simulator.states.items q)) [
    | inl here ↦ left.asleep q within here
    | inr other ↦ subst IsAsleep (sym (left.other_states q other)) (shown.bits.asleep q within (sym (place_without n active leaving q other) ∙ none))
  ]

  -- where a port of the module drives, nothing is left
  left_by : (known : Bool) (k : ℕ) (d : Driver) (count : ℕ) (b : Bool) → is_port_in leaving d ≡ b → count ≡ bit (known && nat_lt k (shown_delay n active d)) →
      cond b 0 count ≡ bit (known && nat_lt k (shown_delay n (without active leaving) d))
  left_by known k d count true is same =
      sym (ap bit (and_right known false refl)) ∙ ap (λ b. bit (known && b)) (sym (le-ltb k 0 (omega arith))) ∙ ap (λ x. bit (known && nat_lt k x)) (delay_without n active leaving d k true is)
  left_by known k d count false is same = same ∙ ap (λ x. bit (known && nat_lt k x)) (delay_without n active leaving d k false is)

  event_left : (w k : ℕ) → k < length new.bits.simulator.wheel → IsEventShown n (without active leaving) t new.bits.simulator w k
  event_left w k within =
      let inside : k < length s.bits.simulator.wheel = let same = left.units in omega (arith, within, same) in
      left.events w k inside
      ∙ left_by (change_at n w (t + 1 + k) && is_bit_wire n w) k (driver n w) (listed w (slot_at s.bits.simulator k)) (is_port_in leaving (driver n w)) refl (shown.bits.events w k inside)

  copy_kept : (x k : ℕ) → k < length new.bits.copies.wheel → IsCopyShown n on numbering t new.bits.copies x k
  copy_kept x k within =
      let same = ap (λ (c : DelayedCopies). length c.wheel) left.copies in
      subst (λ (c : DelayedCopies). IsCopyShown n on numbering t c x k) (sym left.copies) (shown.bits.copies x k (omega (arith, within, same)))

  bits_left : AreBitsShown n (without active leaving) on numbering t new
  bits_left = record {
    sound = sound_run;
    places = left.states ∙ shown.bits.places;
    wires = ap (λ (x : Simulator). length x.waves) left.simulator ∙ shown.bits.wires;
    idle = ap (λ (x : Simulator). x.due.items) left.simulator ∙ shown.bits.idle;
    seats = seat_kept;
    asleep = asleep_left;
    traces = λ w narrow. subst (λ (x : Simulator). IsTrace (shown_level n on w) t (wave_at x.waves w)) (sym left.simulator) (shown.bits.traces w narrow);
    room = λ w p k r drives awake at.
        let same = left.units in let enough = shown.bits.room w p k r drives (other_is n active leaving k.0 awake).awake at in omega (arith, same, enough);
    events = event_left;
    copies = copy_kept;
  }

  -- ---- wires with data
  change_by : (x k : ℕ) (o : Option ℕ) → x < numbers → k < length s.wires.wheel → numbering.data_before x ≡ o →
      cond (is_port_in leaving (driver n x)) 0 (changes_of x (data_slot s.wires.wheel k))
      ≡ bit ((shown_change n on (numbering.source x) (t + 1 + k) && is_data n (numbering.source x).0) && nat_lt k (shown_ahead n (without active leaving) s.wires.next.items x o))
  change_by x k None low within none =
      left_by (shown_change n on (numbering.source x) (t + 1 + k) && is_data n (numbering.source x).0) k (driver n x) (changes_of x (data_slot s.wires.wheel k)) (is_port_in leaving (driver n x)) refl
      (shown.wires.changes x k low within
      ∙ ap (λ (o : Option ℕ). bit ((shown_change n on (numbering.source x) (t + 1 + k) && is_data n (numbering.source x).0) && nat_lt k (shown_ahead n active s.wires.next.items x o))) none)
  change_by x k (Some y) low within after =
      ap (λ b. cond b 0 (changes_of x (data_slot s.wires.wheel k))) (copies_undriven_in n ok numbering s shown.numbers leaving x y after)
      ∙ shown.wires.changes x k low within
      ∙ ap (λ (o : Option ℕ). bit ((shown_change n on (numbering.source x) (t + 1 + k) && is_data n (numbering.source x).0) && nat_lt k (shown_ahead n active s.wires.next.items x o))) after

  change_left : (x k : ℕ) → x < numbers → k < length new.wires.wheel → IsChangeShown n (without active leaving) on numbering s.wires.next.items t new.wires.wheel x k
  change_left x k low within =
      let inside : k < length s.wires.wheel = let same = left.change_units in omega (arith, within, same) in
      left.changes x k low inside ∙ change_by x k (numbering.data_before x) low inside refl

  wires_mid : AreWiresShown n (without active leaving) on numbering numbers t mid_wires
  wires_mid =
      let old = shown.wires in
      record {
        places = old.places;
        next = old.next;
        chained = old.chained;
        below = old.below;
        within = subst (λ k. All (HasSlot k) s.wires.next.items) (sym left.change_units) old.within;
        some = let some = old.some in let same = left.change_units in omega (arith, some, same);
        numbered = left.numbered;
        changes = change_left;
        change_levels = left.change_levels;
        levels = old.levels;
        wires = old.wires;
        waves = old.waves;
        over = old.over;
      }

  -- ---- modules with data
  kept_place : (q k : ℕ) → place_at new.modules.places.items q ≡ Some k → (leaving q ≡ false) × (place_at s.modules.places.items q ≡ Some k)
  kept_place q k at = elim (cases_Bool (leaving q)) as (λ _. (leaving q ≡ false) × (place_at s.modules.places.items q ≡ Some k)) [
    | inl here ↦ absurd (none-some k (sym (left.no_places q here) ∙ at))
    | inr other ↦ (other, sym (left.other_places q other) ∙ at)
  ]

  placed_mid : ArePlaced new.modules.places.items (length s.modules.modules.items)
  placed_mid = record {
    below = λ q k at. shown.modules.placed.below q k (kept_place q k at).1;
    own = λ q p k at too. shown.modules.placed.own q p k (kept_place q k at).1 (kept_place p k too).1;
  }

  data_seat_kept : (q k : ℕ) → place_at new.modules.places.items q ≡ Some k →
      IsDataSeatShown n (without active leaving) numbering numbers (length s.bits.simulator.wheel) (length s.wires.wheel) t q k mid_modules
  data_seat_kept q k at =
      let kept = kept_place q k at in
      let is = shown.modules.seats q k kept.1 in
      let seat = is.seat in
      record {
        awake = same_without n active leaving q kept.0 ∙ is.awake;
        seat = record {
          record_of = seat.record_of;
          stands = seat.stands;
          inactive = place_without n active leaving q kept.0 ∙ seat.inactive;
          does = seat.does;
          outputs = seat.outputs;
          sources = seat.sources;
          reads = seat.reads;
          low = seat.low;
          bits = seat.bits;
          level = seat.level;
          first = seat.first;
          fit = seat.fit;
        };
      }

  modules_mid : AreModulesShown n (without active leaving) numbering numbers (length s.bits.simulator.wheel) (length s.wires.wheel) t mid_modules
  modules_mid = record {
    long = left.places ∙ shown.modules.long;
    placed = placed_mid;
    fit = shown.modules.fit;
    seats = data_seat_kept;
    whole = λ k r at awake none.
        let here = other_is n active leaving k awake in
        ap (is_some {T = ℕ}) (left.other_places k here.other) ∙ shown.modules.whole k r at here.awake (sym (place_without n active leaving k here.other) ∙ none);
  }

  shown_without : Shows n (without active leaving) on numbering t new
  shown_without =
      let kept : AreModulesShown n (without active leaving) numbering numbers (length new.bits.simulator.wheel) (length new.wires.wheel) t new.modules =
      subst (λ (x : DataModules). AreModulesShown n (without active leaving) numbering numbers (length new.bits.simulator.wheel) (length new.wires.wheel) t x) (sym left.modules)
      (subst (λ k. AreModulesShown n (without active leaving) numbering numbers k (length new.wires.wheel) t mid_modules) (sym left.units)
      (subst (λ k. AreModulesShown n (without active leaving) numbering numbers (length s.bits.simulator.wheel) k t mid_modules) (sym left.change_units) modules_mid)) in
      let wires : AreWiresShown n (without active leaving) on numbering numbers t new.wires =
      subst (λ (x : DataWires). AreWiresShown n (without active leaving) on numbering numbers t x) (sym left.wires) wires_mid in
      record {
        numbers = numbers_kept n numbering s new same_fanout (ap (λ (c : DelayedCopies). c.next.items) left.copies) shown.numbers;
        bits = bits_left;
        wires = subst (λ (rows : List (List FanoutEntry)). AreWiresShown n (without active leaving) on numbering (length rows) t new.wires) (sym same_fanout) wires;
        modules = subst (λ (rows : List (List FanoutEntry)). AreModulesShown n (without active leaving) numbering (length rows) (length new.bits.simulator.wheel) (length new.wires.wheel) t new.modules)
            (sym same_fanout) kept;
      }

pub leaving_shows : LeavingShows
leaving_shows = shown_without
