-- A simulation of an excerpt has the netlist's active modules and its wires that are on.
use Rattle.std.proofs.Common.{◌≡◌, ℕ, ◌+◌, ◌%◌, ◌<◌, ◌≤◌, Bool, true, false, cond, nat_lt, List, [], Some, None, is_some, All, length, slice_index_or, ap, sym, subst, ◌∙◌, arith, inl, inr}
use Rattle.std.specs.Prelude.{◌&&◌, ◌||◌, ◌==◌}
use Rattle.std.proofs.lemmas.Bool.{and_parts, cases_lt, ltb-true, false_from_ne_true}
use Rattle.std.proofs.lemmas.List.{get_or_past}
use Rattle.std.proofs.lemmas.Option.{none-some, cond_some}
use Rattle.mp_records.specs.declared.ids.ModuleId.{ModuleId}
use Rattle.mp_records.specs.declared.module_record.ModuleRecord.{ModuleRecord}
use Rattle.mp_records.specs.Outputs.{delay_of}
use Rattle.mp_netlist.specs.declared.driver.Driver.TheVariants.{Port}
use Rattle.mp_netlist.specs.Circuit.{Circuit, IsCircuit, module_at, module_width}
use Rattle.mp_netlist.specs.Drivers.{driver}
use Rattle.mp_netlist.proofs.DriverLemmas.{finds_ports, finds_only_ports}
use Rattle.mp_model.specs.Waves.{level}
use Rattle.mp_modules.specs.automata.PortLevels.{levels_code}
use Rattle.mp_modules.specs.automata.Codes.{bit}
use Rattle.mp_kernel.specs.events.Adding.{state_at}
use Rattle.mp_kernel.specs.events.Firing.{number_of}
use Rattle.mp_kernel.specs.events.Toggling.{wave_at}
use Rattle.mp_kernel.specs.declared.events.output_port.OutputPort.{OutputPort}
use Rattle.mp_simulation.specs.bits.Changes.{change_at, late_change}
use Rattle.mp_simulation.specs.bits.Traces.{IsTrace}
use Rattle.mp_simulation.specs.bits.Units.{Stands, rest_state_at}
use Rattle.mp_simulation.specs.bits.WholeRuns.{is_number}
use Rattle.mp_simulation.proofs.lemmas.bits.NumberLemmas.{no_events_when, events_part}
use Rattle.mp_kernel.specs.declared.datapath.level_change.LevelChange.{LevelChange}
use Rattle.mp_modules.specs.storage.DataParts.{outputs_in}
use Rattle.mp_kernel.specs.datapath.DataFiring.{place_at}
use Rattle.mp_simulation.specs.declared.units.netlist_simulation.NetlistSimulation.{NetlistSimulation}
use Rattle.mp_simulation.specs.units.DataLevels.{is_data, is_bit_wire, changes_of, IsLevelAt}
use Rattle.mp_simulation.specs.units.DataWheels.{data_slot, driver_delay}
use Rattle.mp_simulation.specs.units.NetlistSimulations.{IsSimulated}
use Rattle.mp_simulation.proofs.lemmas.units.LateLemmas.{late_bit, own_level}
use Rattle.mp_simulation.proofs.lemmas.units.PresentLemmas.{change_here}
use Rattle.mp_active.specs.excerpt.Excerpts.{excerpt, ArePortsOn}
use Rattle.mp_active.specs.excerpt.Numberings.{Numbering, HasNumbers, is_bit_number, place_of}
use Rattle.mp_active.specs.excerpt.Levels.{shown_level, shown_change, shown_delay, shown_ahead, IsEventShown, IsCopyShown, IsChangeShown}
use Rattle.mp_active.specs.excerpt.Showing.{IsSeatShown, IsAsleep, AreBitsShown, AreWiresShown, IsDataSeatShown, AreModulesShown, Shows, SimulationsShow}
use Rattle.mp_active.proofs.lemmas.excerpt.ExcerptLemmas.{excerpt_ok, length_active, length_on, module_active, is_here, drives_here, module_width_there, built_there}
use Rattle.mp_active.proofs.lemmas.excerpt.LevelLemmas.{excerpt_state}
use Rattle.mp_active.proofs.lemmas.excerpt.TestLemmas.{swapped, bit_true}
use Rattle.mp_partition.proofs.lemmas.regions.PartLemmas.{same_wave}
use Rattle.mp_active.proofs.lemmas.excerpt.TraceLemmas.{same_trace}
use Rattle.mp_active.proofs.lemmas.excerpt.ChangeLemmas.{decided_by, data_there, bit_there, level_there, late_there, event_there, copy_number, data_number, data_level}
use Rattle.mp_active.proofs.lemmas.excerpt.StateLemmas.{no_remainder}
use Rattle.mp_active.proofs.lemmas.excerpt.PlaceLemmas.{seated, placed, placeless, wide_when, no_seat, seat_test, bit_parts, rest_there, bit_ports_there, level_port_there}

-- ---- what is in a slot is known

-- a number with data that is in a slot is one of a wire that is on, and its change is known
pub record IsEntry (n : Circuit) (active on : ℕ → Bool) (numbering : Numbering) (next : List OutputPort) (x k : ℕ) : Type 0 where
  pub is : on (numbering.source x).0 ≡ true
  pub wide : is_data n (numbering.source x).0 ≡ true
  pub known : k < shown_ahead n active next x (numbering.data_before x)

pub entry_is : (n : Circuit) (active on : ℕ → Bool) (numbering : Numbering) (next : List OutputPort) (t : ℕ) (slots : List (List LevelChange)) (x k : ℕ) →
    IsChangeShown n active on numbering next t slots x k → 0 < changes_of x (data_slot slots k) → IsEntry n active on numbering next x k
entry_is n active on numbering next t slots x k shown some =
    let late = late_change n (numbering.source x) (t + 1 + k) in
    let known = nat_lt k (shown_ahead n active next x (numbering.data_before x)) in
    let all : ((shown_change n on (numbering.source x) (t + 1 + k) && is_data n (numbering.source x).0) && known) ≡ true = bit_true _ (subst (λ c. 0 < c) shown some) in
    let outer = and_parts (shown_change n on (numbering.source x) (t + 1 + k) && is_data n (numbering.source x).0) known all in
    let inner = and_parts (shown_change n on (numbering.source x) (t + 1 + k)) (is_data n (numbering.source x).0) outer.0 in
    record {
      is = (and_parts (on (numbering.source x).0) late inner.0).0;
      wide = inner.1;
      known = ltb-true k (shown_ahead n active next x (numbering.data_before x)) outer.1;
    }

-- a slot that has something is one of the wheel
pub slot_inside : (slots : List (List LevelChange)) (k j : ℕ) → j < length (data_slot slots k) → k < length slots
slot_inside slots k j inside = elim (cases_lt k (length slots)) as (λ _. k < length slots) [
  | inl low ↦ low
  | inr past ↦ let none : length (data_slot slots k) ≡ 0 = ap (length {A = LevelChange}) (get_or_past slots k [] past) in let no : ⊥ = omega (arith, none, inside) in absurd no
]

-- ---- a simulation of an excerpt

module _ (n : Circuit) (ok : IsCircuit n) (active on : ℕ → Bool) (ports : ArePortsOn n active on) (t : ℕ) (low : t < n.horizon) (s : NetlistSimulation) (is : IsSimulated (excerpt n active on) t s) where
  seen_ok : IsCircuit (excerpt n active on)
  seen_ok = excerpt_ok n active on ok ports

  abbrev numbering : Numbering
  numbering = record { inputs = is.scope.inputs; source = is.scope.source; before = is.before; data_before = is.data_before }

  abbrev numbers : ℕ
  numbers = length s.bits.simulator.fanout

  stands : Stands (excerpt n active on) is.scope t t rest_state_at s.bits.simulator
  stands = is.running.simulator.stands

  traces : (w : ℕ) → is.scope.traces w ≡ is_bit_wire n w
  traces w = is.traces w ∙ bit_there n ok active on ports w

  owns : (w u : ℕ) → is.scope.owns w u ≡ is_bit_wire n w
  owns w u = is.own w u ∙ traces w

  number : (x : ℕ) → is_number is.scope is.before x ≡ is_bit_number n numbering x
  number x = ap (λ b. b || is_some (is.before x)) (traces x)

  wide_there : (w : ℕ) → is_data (excerpt n active on) w ≡ is_data n w
  wide_there w = data_there n ok active on ports w

  own_number : (x : ℕ) → x < numbers → is_data n (is.scope.source x).0 ≡ true → is.data_before x ≡ None → is.scope.source x ≡ (x, 0)
  own_number x within wide none = is.split.with_data x within (wide_there (is.scope.source x).0 ∙ wide) none

  has_numbers : HasNumbers n numbering s
  has_numbers = record {
    ports = stands.layout.ports;
    chained = is.running.chained;
    wires = λ w narrow. is.whole.source w (traces w ∙ narrow);
    copies = λ x y after. let copy = is.whole.copies x y after in (sym (traces x) ∙ copy.0, sym (number y) ∙ copy.1);
    bits = λ x within narrow. sym (number x) ∙ is.split.bits x within (wide_there (is.scope.source x).0 ∙ narrow);
    with_data = own_number;
    data_wires = λ w wide. is.split.wires w (wide_there w ∙ wide);
    data_copies = λ x y after. sym (wide_there (is.scope.source x).0) ∙ is.split.data_copies x y after;
    bit_copies = λ x y after. sym (wide_there (is.scope.source x).0) ∙ is.split.bit_copies x y after;
  }

  -- ---- modules of width 1
  place_there : (m : ℕ) (r : ModuleRecord) → active m ≡ true → module_at n m ≡ Some r → is.scope.place m ≡ cond (module_width n r == 1) (Some m) None
  place_there m r awake at =
      is.seats m r (module_active n active on m awake ∙ at) ∙ ap (λ k. cond (k == 1) (Some m) None) (module_width_there n active on r)

  seat_shown : (m : ℕ) (r : ModuleRecord) → module_at n m ≡ Some r → place_of n active m ≡ Some m → IsSeatShown n numbering t m r s.bits.simulator
  seat_shown m r at place =
      let here = placed n active m m r at place in
      let there : module_at (excerpt n active on) m ≡ Some r = module_active n active on m here.awake ∙ at in
      let own : is.scope.place m ≡ Some m = place_there m r here.awake at ∙ ap (λ b. cond b (Some m) None) here.narrow in
      let seat = stands.layout.seats m m r there own in
      record {
        reads = seat.reads;
        numbers = λ k d within. sym (number (slice_index_or (is.scope.inputs m) k d)) ∙ is.whole.inputs m seat.active k d within;
        drives = seat.drives;
        word = stands.numbered m seat.within ∙ ap number_of (stands.active m m r there own ∙ rest_there n ok active on ports m t r here.awake at low);
        levels = stands.levels m m r there own ∙ ap levels_code (excerpt_state n ok active on ports m t r here.awake at low);
      }

  in_states : (q : ℕ) → q < length n.modules → q < length s.bits.simulator.states.items
  in_states q within = let same = is.places in let long = length_active active 0 n.modules in omega (arith, within, same, long)

  inactive : (q : ℕ) → q < length n.modules → place_of n active q ≡ None → is.scope.is_active q ≡ false
  inactive q within none =
      false_from_ne_true (is.scope.is_active q)
      (λ awake.
      let place = stands.layout.placed q (in_states q within) awake in
      let here = is_here n active on place.number place.part place.stands in
      let found : cond (module_width n place.part == 1) (Some place.number) None ≡ Some q = sym (place_there place.number place.part here.awake here.stands) ∙ place.is in
      let parts = cond_some (module_width n place.part == 1) place.number q found in
      let own : place_of n active q ≡ Some q = subst (λ k. place_of n active k ≡ Some k) parts.1 (seated n active place.number place.part here.stands here.awake parts.0) in
      none-some q (sym none ∙ own))

  asleep_shown : (q : ℕ) → q < length n.modules → place_of n active q ≡ None → IsAsleep (state_at s.bits.simulator.states.items q)
  asleep_shown q within none = record {
    unit = stands.units q;
    sleeps = stands.asleep q (inactive q within none);
    quiet = no_events_when (stands.units q).events (sym (events_part (stands.units q)) ∙ ap (λ v. v % 16) (sym (stands.numbered q (in_states q within))) ∙ no_remainder s.bits.simulator.states.items s.bits.simulator.due.items is.sound.simulator.events is.running.simulator.due q);
    is = stands.numbered q (in_states q within);
  }

  -- ---- wires of width 1
  wires_long : length s.bits.simulator.waves ≡ length n.wires
  wires_long = is.waves ∙ length_on n active on 0 n.wires

  level_bit : (w u : ℕ) → is_bit_wire n w ≡ true → level (excerpt n active on) w u ≤ 1
  level_bit w u narrow =
      let bits = late_bit (excerpt n active on) seen_ok (w, 0) u (wide_there w ∙ (bit_parts n w narrow).1) in
      subst (λ v. v ≤ 1) (own_level (excerpt n active on) w u) bits

  trace_shown : (w : ℕ) → is_bit_wire n w ≡ true → IsTrace (shown_level n on w) t (wave_at s.bits.simulator.waves w)
  trace_shown w narrow =
      same_trace (level (excerpt n active on) w) (shown_level n on w) t (wave_at s.bits.simulator.waves w) (λ u within. level_there n ok active on ports t low w u within)
      (λ u. level_bit w u narrow) (stands.waves w (let inside = (bit_parts n w narrow).0 in let same = wires_long in omega (arith, inside, same)) (traces w ∙ narrow))

  known_at : (w : ℕ) (m : ModuleId) (p : ℕ) → driver (excerpt n active on) w ≡ Port m p → is.scope.known m.0 ≡ t + 1
  known_at w m p drives = let here = finds_only_ports (excerpt n active on) w p m drives in is.known m.0 here.part here.stands

  event_shown : (w k : ℕ) → k < length s.bits.simulator.wheel → IsEventShown n active t s.bits.simulator w k
  event_shown w k within =
      let change = change_at (excerpt n active on) w (t + 1 + k) in
      let known = nat_lt k (driver_delay (excerpt n active on) (driver (excerpt n active on) w)) in
      stands.events w k within
      ∙ ap (λ d. bit ((change && d) && is.scope.owns w (t + 1 + k))) (decided_by (excerpt n active on) is.scope.known (driver (excerpt n active on) w) t k (known_at w))
      ∙ ap (λ o. bit ((change && known) && o)) (owns w (t + 1 + k))
      ∙ ap (λ b. bit (b && is_bit_wire n w)) (event_there n ok active on ports t low w k)
      ∙ ap bit (swapped (change_at n w (t + 1 + k)) (nat_lt k (shown_delay n active (driver n w))) (is_bit_wire n w))

  copy_shown : (x k : ℕ) → k < length s.bits.copies.wheel → IsCopyShown n on numbering t s.bits.copies x k
  copy_shown x k within = is.running.copies x k within ∙ ap bit (copy_number n ok active on ports t low is.scope.source is.before s.bits.copies.next.items is.running.chained x k)

  room_shown : (w p : ℕ) (m : ModuleId) (r : ModuleRecord) → driver n w ≡ Port m p → active m.0 ≡ true → module_at n m.0 ≡ Some r → delay_of r p ≤ length s.bits.simulator.wheel
  room_shown w p m r drives awake at =
      let there : module_at (excerpt n active on) m.0 ≡ Some r = module_active n active on m.0 awake ∙ at in
      let port : driver (excerpt n active on) w ≡ Port m p =
      finds_ports (excerpt n active on) seen_ok m.0 p w (drives_here n active on m.0 p w awake (finds_only_ports n w p m drives)) in
      let enough = stands.room w p m r port there in
      let known = is.known m.0 r there in
      omega (arith, enough, known)

  bits_shown : AreBitsShown n active on numbering t s
  bits_shown = record {
    sound = is.sound;
    places = is.places ∙ length_active active 0 n.modules;
    wires = wires_long;
    idle = is.running.simulator.due;
    seats = seat_shown;
    asleep = asleep_shown;
    traces = trace_shown;
    room = room_shown;
    events = event_shown;
    copies = copy_shown;
  }

  -- ---- wires with data
  change_shown : (x k : ℕ) → x < numbers → k < length s.wires.wheel → IsChangeShown n active on numbering s.wires.next.items t s.wires.wheel x k
  change_shown x k within inside =
      is.wires.changes.each x k (let same = is.wires.next in omega (arith, within, same)) inside
      ∙ ap bit (data_number n ok active on ports t low is.scope.source is.data_before s.wires.next.items is.wires.chained x k (own_number x within))

  change_level : (k : ℕ) → All (IsLevelAt n is.scope.source (t + 1 + k)) (data_slot s.wires.wheel k)
  change_level k j e inside =
      let c : LevelChange = slice_index_or (data_slot s.wires.wheel k) j e in
      let within : c.number < numbers = is.wires.numbered k j e inside in
      let entry = entry_is n active on numbering s.wires.next.items t s.wires.wheel c.number k (change_shown c.number k within (slot_inside s.wires.wheel k j inside))
      (change_here (data_slot s.wires.wheel k) j e inside) in
      is.wires.changes.levels k j e inside
      ∙ data_level n ok active on ports t low is.scope.source is.data_before s.wires.next.items is.wires.chained c.number k (own_number c.number within entry.wide) entry.is entry.known

  wires_shown : AreWiresShown n active on numbering numbers t s.wires
  wires_shown = record {
    places = is.wires.places;
    next = is.wires.next;
    chained = is.wires.chained;
    below = is.wires.below;
    within = is.wires.within;
    some = is.wires.some;
    numbered = is.wires.numbered;
    changes = change_shown;
    change_levels = change_level;
    levels = λ x within. is.wires.levels x within ∙ late_there n ok active on ports t low (is.scope.source x);
    wires = is.wires.wires ∙ length_on n active on 0 n.wires;
    waves = λ w wide. is.wires.waves w (wide_there w ∙ wide) ∙ same_wave (level (excerpt n active on) w) (shown_level n on w) t (λ u within. level_there n ok active on ports t low w u within);
    over = is.wires.over;
  }

  -- ---- modules with data
  data_seat_shown : (q k : ℕ) → place_at s.modules.places.items q ≡ Some k →
      IsDataSeatShown n active numbering numbers (length s.bits.simulator.wheel) (length s.wires.wheel) t q k s.modules
  data_seat_shown q k at =
      let seat = is.modules.seats q k at in
      let here = is_here n active on q seat.record_of seat.stands in
      record {
        awake = here.awake;
        seat = record {
          record_of = seat.record_of;
          stands = here.stands;
          inactive = placeless n active q seat.record_of here.stands (seat_test q (module_width n seat.record_of == 1) (sym (place_there q seat.record_of here.awake here.stands) ∙ seat.inactive));
          does = seat.does ∙ built_there n active on seat.record_of;
          outputs = seat.outputs ∙ ap outputs_in (excerpt_state n ok active on ports q t seat.record_of here.awake here.stands low);
          sources = seat.sources;
          reads = seat.reads;
          low = seat.low;
          bits = seat.bits ∙ bit_ports_there n ok active on ports seat.record_of;
          level = seat.level ∙ level_port_there n ok active on ports seat.record_of;
          first = λ w p drives wide. seat.first w p (drives_here n active on q p w here.awake drives) (wide_there w ∙ wide);
          fit = seat.fit;
        };
      }

  modules_shown : AreModulesShown n active numbering numbers (length s.bits.simulator.wheel) (length s.wires.wheel) t s.modules
  modules_shown = record {
    long = is.modules.long ∙ is.places ∙ length_active active 0 n.modules;
    placed = is.modules.placed;
    fit = is.modules.fit;
    seats = data_seat_shown;
    whole = λ m r at awake none.
        is.modules.whole m r (module_active n active on m awake ∙ at) (place_there m r awake at ∙ no_seat m (module_width n r == 1) (wide_when n active m r at awake none));
  }

  pub shows : Shows n active on numbering t s
  shows = record { numbers = has_numbers; bits = bits_shown; wires = wires_shown; modules = modules_shown }

pub simulations_show : SimulationsShow
simulations_show n ok active on ports t s low is = (numbering n ok active on ports t low s is, shows n ok active on ports t low s is)
