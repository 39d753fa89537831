-- What has the netlist's active modules and its wires that are on is a simulation of the excerpt.
use Rattle.std.proofs.Common.{◌≡◌, ℕ, ◌+◌, ◌<◌, Bool, true, cond, nat_lt, Some, None, is_some, All, length, slice_index_or, refl, ap, sym, subst, ◌∙◌, arith}
use Rattle.std.specs.Prelude.{◌&&◌, ◌==◌}
use Rattle.std.proofs.lemmas.Bool.{eqb-true}
use Rattle.mp_records.specs.declared.ids.ModuleId.{ModuleId}
use Rattle.mp_records.specs.declared.module_record.ModuleRecord.{ModuleRecord}
use Rattle.mp_records.specs.Outputs.{delay_of}
use Rattle.mp_netlist.specs.declared.driver.Driver.TheVariants.{Port}
use Rattle.mp_netlist.specs.Circuit.{Circuit, IsCircuit, module_at, module_width}
use Rattle.mp_netlist.specs.Drivers.{driver}
use Rattle.mp_netlist.proofs.DriverLemmas.{finds_ports, finds_only_ports}
use Rattle.mp_model.specs.Evaluations.{delay_in}
use Rattle.mp_model.specs.Waves.{level, state}
use Rattle.mp_model.proofs.EvaluationLemmas.{delay_positive}
use Rattle.mp_model.proofs.SlotLemmas.{slot_within}
use Rattle.mp_modules.specs.automata.PortLevels.{levels_code}
use Rattle.mp_modules.specs.automata.Codes.{bit}
use Rattle.mp_kernel.specs.events.Firing.{UnitState}
use Rattle.mp_kernel.specs.events.LevelFlips.{levels_at}
use Rattle.mp_kernel.specs.events.Toggling.{wave_at}
use Rattle.mp_simulation.specs.bits.Changes.{change_at}
use Rattle.mp_simulation.specs.bits.Schedules.{HasPlace}
use Rattle.mp_simulation.specs.bits.Units.{IsSeat, HaveLevels, HaveEvents, HaveRoom, HaveWaves, IsBefore, rest_state_at}
use Rattle.mp_simulation.specs.bits.Copies.{HaveCopies}
use Rattle.mp_simulation.specs.bits.WholeRuns.{IsWhole}
use Rattle.mp_simulation.proofs.lemmas.bits.WidthLemmas.{have_bits}
use Rattle.mp_kernel.specs.declared.datapath.level_change.LevelChange.{LevelChange}
use Rattle.mp_modules.specs.storage.DataParts.{outputs_in}
use Rattle.mp_kernel.specs.datapath.DataFiring.{place_at, module_at as data_module_at}
use Rattle.mp_simulation.specs.declared.units.netlist_simulation.NetlistSimulation.{NetlistSimulation}
use Rattle.mp_simulation.specs.units.DataLevels.{is_data, is_bit_wire, IsLevelAt}
use Rattle.mp_simulation.specs.units.DataSeats.{IsDataSeat, AreDataModules}
use Rattle.mp_simulation.specs.units.DataWheels.{data_slot, AreDataWires}
use Rattle.mp_simulation.specs.units.NetlistSimulations.{AreSplit, IsSimulated}
use Rattle.mp_simulation.proofs.lemmas.units.PresentLemmas.{change_here}
use Rattle.mp_active.specs.excerpt.Excerpts.{excerpt, ArePortsOn}
use Rattle.mp_active.specs.excerpt.Numberings.{Numbering, place_in, place_of, scope_of}
use Rattle.mp_active.specs.excerpt.Levels.{shown_level, shown_delay}
use Rattle.mp_active.specs.excerpt.Showing.{Shows, ShowingSimulates}
use Rattle.mp_active.proofs.lemmas.excerpt.ExcerptLemmas.{excerpt_ok, length_active, length_on, module_active, is_here, drives_there, module_width_there, built_there}
use Rattle.mp_active.proofs.lemmas.excerpt.LevelLemmas.{excerpt_state}
use Rattle.mp_active.proofs.lemmas.excerpt.TestLemmas.{swapped}
use Rattle.mp_partition.proofs.lemmas.regions.PartLemmas.{same_wave}
use Rattle.mp_active.proofs.lemmas.excerpt.TraceLemmas.{same_trace}
use Rattle.mp_active.proofs.lemmas.excerpt.ChangeLemmas.{shown_bit, decided_by, data_there, bit_there, level_there, late_there, event_there, copy_number, data_number, data_level}
use Rattle.mp_active.proofs.lemmas.excerpt.PlaceLemmas.{placed, taken, bit_driven, bit_parts, rest_there, bit_ports_there, level_port_there}
use Rattle.mp_active.proofs.lemmas.excerpt.UnitLemmas.{units_of, sleeps_by, numbered_by, unit_some}
use Rattle.mp_active.proofs.lemmas.excerpt.ShownLemmas.{entry_is, slot_inside}

module _ (n : Circuit) (ok : IsCircuit n) (active on : ℕ → Bool) (ports : ArePortsOn n active on) (numbering : Numbering) (t : ℕ) (low : t < n.horizon) (s : NetlistSimulation)
    (shown : Shows n active on numbering t s) where
  seen_ok : IsCircuit (excerpt n active on)
  seen_ok = excerpt_ok n active on ok ports

  abbrev numbers : ℕ
  numbers = length s.bits.simulator.fanout

  wide_there : (w : ℕ) → is_data (excerpt n active on) w ≡ is_data n w
  wide_there w = data_there n ok active on ports w

  abbrev units : ℕ → UnitState
  units = units_of n active on numbering t s shown

  -- ---- modules of width 1
  -- a module of the excerpt at its place
  record IsAt (m q : ℕ) (r : ModuleRecord) : Type 0 where
    pub awake : active m ≡ true
    pub stands : module_at n m ≡ Some r
    pub narrow : (module_width n r == 1) ≡ true
    pub same : m ≡ q
    pub place : place_of n active m ≡ Some m

  at_place : (m q : ℕ) (r : ModuleRecord) → module_at (excerpt n active on) m ≡ Some r → place_of n active m ≡ Some q → IsAt m q r
  at_place m q r at place =
      let here = is_here n active on m r at in
      let is = placed n active m q r here.stands place in
      record { awake = here.awake; stands = here.stands; narrow = is.narrow; same = is.same; place = is.place }

  seat : (m q : ℕ) (r : ModuleRecord) → module_at (excerpt n active on) m ≡ Some r → place_of n active m ≡ Some q → IsSeat (excerpt n active on) (scope_of n active numbering t) s.bits.simulator m q r
  seat m q r at place =
      let here = at_place m q r at place in
      let own = shown.bits.seats m r here.stands here.place in
      let bits = have_bits (excerpt n active on) seen_ok m r at (module_width_there n active on r ∙ eqb-true (module_width n r) 1 here.narrow) in
      subst (λ k. IsSeat (excerpt n active on) (scope_of n active numbering t) s.bits.simulator m k r) here.same
      (record {
        within = let inside = slot_within n.modules m r here.stands in let same = shown.bits.places in omega (arith, inside, same);
        active = ap (is_some {T = ℕ}) here.place;
        of_bits = bits.of_bits;
        state_bits = bits.states;
        input_bits = bits.inputs;
        reads = own.reads;
        drives = own.drives;
        owned = λ w p u drives later. bit_driven n ok m p w r here.stands here.narrow (drives_there n active on m p w drives);
      })

  has_place : (q : ℕ) → q < length s.bits.simulator.states.items → is_some (place_of n active q) ≡ true → HasPlace (excerpt n active on) (place_of n active) q
  has_place q within some =
      let found = taken n active q some in
      record { number = q; part = found.part; stands = module_active n active on q found.is.awake ∙ found.stands; is = found.is.place }

  unit_at : (m q : ℕ) (r : ModuleRecord) → module_at (excerpt n active on) m ≡ Some r → place_of n active m ≡ Some q → units q ≡ rest_state_at (excerpt n active on) r m t
  unit_at m q r at place =
      let here = at_place m q r at place in
      subst (λ k. units k ≡ rest_state_at (excerpt n active on) r m t) here.same
      (unit_some n active on numbering t s shown m m (place_of n active m) refl r here.stands here.place ∙ sym (rest_there n ok active on ports m t r here.awake here.stands low))

  have_levels : HaveLevels (excerpt n active on) (scope_of n active numbering t) t s.bits.simulator
  have_levels m q r at place =
      let here = at_place m q r at place in
      subst (λ k. levels_at s.bits.simulator.levels.items k ≡ levels_code (state (excerpt n active on) m t)) here.same
      ((shown.bits.seats m r here.stands here.place).levels ∙ ap levels_code (sym (excerpt_state n ok active on ports m t r here.awake here.stands low)))

  -- ---- wires of width 1
  have_waves : HaveWaves (excerpt n active on) (scope_of n active numbering t) t s.bits.simulator
  have_waves w within narrow =
      same_trace (shown_level n on w) (level (excerpt n active on) w) t (wave_at s.bits.simulator.waves w) (λ u before. sym (level_there n ok active on ports t low w u before))
      (λ u. shown_bit n ok on w u (bit_parts n w narrow).1) (shown.bits.traces w narrow)

  have_events : HaveEvents (excerpt n active on) (scope_of n active numbering t) t s.bits.simulator
  have_events w k within =
      let change = change_at (excerpt n active on) w (t + 1 + k) in
      shown.bits.events w k within
      ∙ sym (
      ap (λ d. bit ((change && d) && is_bit_wire n w)) (decided_by (excerpt n active on) (λ m. t + 1) (driver (excerpt n active on) w) t k (λ m p e. refl))
      ∙ ap (λ b. bit (b && is_bit_wire n w)) (event_there n ok active on ports t low w k)
      ∙ ap bit (swapped (change_at n w (t + 1 + k)) (nat_lt k (shown_delay n active (driver n w))) (is_bit_wire n w)))

  have_room : HaveRoom (excerpt n active on) (scope_of n active numbering t) t s.bits.simulator
  have_room w p m r drives at =
      let drv = finds_only_ports (excerpt n active on) w p m drives in
      let here = is_here n active on m.0 r at in
      let enough = shown.bits.room w p m r (finds_ports n ok m.0 p w (drives_there n active on m.0 p w drv)) here.awake here.stands in
      omega (arith, enough)

  is_before : IsBefore (excerpt n active on) (scope_of n active numbering t) t s.bits.simulator
  is_before = record {
    stands = record {
      layout = record { ports = shown.numbers.ports; seats = seat; placed = has_place };
      units = units;
      numbered = λ q within. numbered_by n active on numbering t s shown q (place_of n active q) refl (let same = shown.bits.places in omega (arith, within, same));
      asleep = λ q idle. sleeps_by n active on numbering t s shown q (place_of n active q) refl idle;
      active = unit_at;
      levels = have_levels;
      answered = λ m q place. refl;
      waves = have_waves;
      events = have_events;
      room = have_room;
    };
    due = shown.bits.idle;
  }

  have_copies : HaveCopies (excerpt n active on) numbering.source numbering.before s.bits.copies.next.items t s.bits.copies.wheel
  have_copies x k within =
      shown.bits.copies x k within ∙ sym (ap bit (copy_number n ok active on ports t low numbering.source numbering.before s.bits.copies.next.items shown.numbers.chained x k))

  arrived : (w p : ℕ) (m : ModuleId) (r : ModuleRecord) → driver (excerpt n active on) w ≡ Port m p → module_at (excerpt n active on) m.0 ≡ Some r → t + 1 < t + 1 + delay_of r p
  arrived w p m r drives at =
      let some : 0 < delay_of r p = subst (λ slot. 0 < delay_in slot p) at (delay_positive (excerpt n active on) seen_ok m.0 p) in
      omega (arith, some)

  whole : IsWhole (excerpt n active on) (scope_of n active numbering t) numbering.before t
  whole = record {
    source = shown.numbers.wires;
    own = λ w is. is;
    other = λ w is. is;
    arrived = λ w p m r drives at is. arrived w p m r drives at;
    copies = shown.numbers.copies;
    inputs = λ q some. let found = taken n active q some in (shown.bits.seats q found.part found.stands found.is.place).numbers;
  }

  split : AreSplit (excerpt n active on) (scope_of n active numbering t) numbering.before numbering.data_before numbers
  split = record {
    bits = λ x within narrow. shown.numbers.bits x within (sym (wide_there (numbering.source x).0) ∙ narrow);
    with_data = λ x within wide none. shown.numbers.with_data x within (sym (wide_there (numbering.source x).0) ∙ wide) none;
    wires = λ w wide. shown.numbers.data_wires w (sym (wide_there w) ∙ wide);
    data_copies = λ x y after. wide_there (numbering.source x).0 ∙ shown.numbers.data_copies x y after;
    bit_copies = λ x y after. wide_there (numbering.source x).0 ∙ shown.numbers.bit_copies x y after;
  }

  -- ---- wires with data
  change_level : (k : ℕ) → All (IsLevelAt (excerpt n active on) numbering.source (t + 1 + k)) (data_slot s.wires.wheel k)
  change_level k j e inside =
      let c : LevelChange = slice_index_or (data_slot s.wires.wheel k) j e in
      let within : c.number < numbers = shown.wires.numbered k j e inside in
      let entry = entry_is n active on numbering s.wires.next.items t s.wires.wheel c.number k (shown.wires.changes c.number k within (slot_inside s.wires.wheel k j inside))
      (change_here (data_slot s.wires.wheel k) j e inside) in
      shown.wires.change_levels k j e inside
      ∙ sym (data_level n ok active on ports t low numbering.source numbering.data_before s.wires.next.items shown.wires.chained c.number k (shown.numbers.with_data c.number within entry.wide) entry.is entry.known)

  data_wires : AreDataWires (excerpt n active on) numbering.source numbering.data_before numbers t s.wires
  data_wires = record {
    places = shown.wires.places;
    next = shown.wires.next;
    chained = shown.wires.chained;
    below = shown.wires.below;
    within = shown.wires.within;
    some = shown.wires.some;
    numbered = shown.wires.numbered;
    changes = record {
      each = λ x k within inside.
          let number : x < numbers = let same = shown.wires.next in omega (arith, within, same) in
          shown.wires.changes x k number inside
          ∙ sym (ap bit (data_number n ok active on ports t low numbering.source numbering.data_before s.wires.next.items shown.wires.chained x k (shown.numbers.with_data x number)));
      levels = change_level;
    };
    levels = λ x within. shown.wires.levels x within ∙ sym (late_there n ok active on ports t low (numbering.source x));
    wires = shown.wires.wires ∙ sym (length_on n active on 0 n.wires);
    waves = λ w wide. shown.wires.waves w (sym (wide_there w) ∙ wide)
        ∙ same_wave (shown_level n on w) (level (excerpt n active on) w) t (λ u within. sym (level_there n ok active on ports t low w u within));
    over = shown.wires.over;
  }

  -- ---- modules with data
  data_seat : (q k : ℕ) → place_at s.modules.places.items q ≡ Some k →
      IsDataSeat (excerpt n active on) (scope_of n active numbering t) numbers (length s.bits.simulator.wheel) (length s.wires.wheel) t q (data_module_at s.modules.modules.items k)
  data_seat q k at =
      let is = shown.modules.seats q k at in
      let own = is.seat in
      record {
        record_of = own.record_of;
        stands = module_active n active on q is.awake ∙ own.stands;
        inactive = own.inactive;
        does = own.does ∙ sym (built_there n active on own.record_of);
        outputs = own.outputs ∙ ap outputs_in (sym (excerpt_state n ok active on ports q t own.record_of is.awake own.stands low));
        sources = own.sources;
        reads = own.reads;
        low = own.low;
        bits = own.bits ∙ sym (bit_ports_there n ok active on ports own.record_of);
        level = own.level ∙ sym (level_port_there n ok active on ports own.record_of);
        first = λ w p drives wide. own.first w p (drives_there n active on q p w drives) (sym (wide_there w) ∙ wide);
        fit = own.fit;
      }

  data_modules : AreDataModules (excerpt n active on) (scope_of n active numbering t) numbers (length s.bits.simulator.states.items) (length s.bits.simulator.wheel) (length s.wires.wheel) t s.modules
  data_modules = record {
    long = shown.modules.long ∙ sym shown.bits.places;
    placed = shown.modules.placed;
    fit = shown.modules.fit;
    seats = data_seat;
    whole = λ m r at none. let here = is_here n active on m r at in shown.modules.whole m r here.stands here.awake none;
  }

  seats_there : (m : ℕ) (r : ModuleRecord) → module_at (excerpt n active on) m ≡ Some r → place_of n active m ≡ cond (module_width (excerpt n active on) r == 1) (Some m) None
  seats_there m r at =
      let here = is_here n active on m r at in
      ap (place_in n (active m) m) here.stands
      ∙ ap (λ a. cond (a && (module_width n r == 1)) (Some m) None) here.awake
      ∙ sym (ap (λ k. cond (k == 1) (Some m) None) (module_width_there n active on r))

  simulated : IsSimulated (excerpt n active on) t s
  simulated = record {
    scope = scope_of n active numbering t;
    before = numbering.before;
    data_before = numbering.data_before;
    sound = shown.bits.sound;
    running = record { simulator = is_before; chained = shown.numbers.chained; copies = have_copies };
    whole = whole;
    own = λ w u. refl;
    traces = λ w. sym (bit_there n ok active on ports w);
    known = λ m r at. refl;
    places = shown.bits.places ∙ sym (length_active active 0 n.modules);
    seats = seats_there;
    waves = shown.bits.wires ∙ sym (length_on n active on 0 n.wires);
    split = split;
    wires = data_wires;
    modules = data_modules;
  }

pub showing_simulates : ShowingSimulates
showing_simulates n ok active on ports numbering t s low shown = simulated n ok active on ports numbering t low s shown
