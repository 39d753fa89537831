-- When the modules that are due have fired, the unit is over.
use Rattle.std.proofs.Common.{◌≡◌, ◌≢◌, ℕ, zero, suc, ◌+◌, ◌-◌, ◌<◌, ◌≤◌, Bool, true, false, cond, nat_lt, List, [], length, Option, Some, None, refl, sym, ap, ◌∙◌, arith, subst}
use Rattle.std.specs.Prelude.{◌==◌, ◌&&◌, slice_index_or, bit_xor}
use Rattle.std.proofs.lemmas.Bool.{eqb-true, eqb-false}
use Rattle.std.proofs.lemmas.Bool.Decides.{nat_tests}
use Rattle.mp_wave.specs.Waveform.{Waveform}
use Rattle.mp_records.specs.declared.ids.ModuleId.{ModuleId}
use Rattle.mp_records.specs.declared.module_record.ModuleRecord.{ModuleRecord}
use Rattle.mp_records.specs.Outputs.{output_at, delay_of}
use Rattle.mp_netlist.specs.declared.driver.Driver.{Driver}
use Rattle.mp_netlist.specs.declared.driver.Driver.TheVariants.{Nothing, Stimulus, Port}
use Rattle.mp_netlist.specs.Circuit.{Circuit, IsCircuit, module_at, Drives}
use Rattle.mp_netlist.specs.Drivers.{driver, is_port}
use Rattle.mp_netlist.proofs.DriverLemmas.{finds_ports, finds_only_ports, portless_is_undriven}
use Rattle.mp_model.specs.Evaluations.{delay_in}
use Rattle.mp_model.specs.Levels.{built}
use Rattle.mp_model.specs.Waves.{level, state}
use Rattle.mp_modules.specs.declared.automata.events.Events.{Events}
use Rattle.mp_modules.specs.declared.automata.phase.Phase.{Phase}
use Rattle.mp_modules.specs.declared.automata.reaction.Reaction.{Reaction}
use Rattle.mp_modules.specs.automata.Automata.{automaton_of}
use Rattle.mp_modules.specs.automata.Codes.{bit, no_events}
use Rattle.mp_modules.specs.automata.PortLevels.{ports_code, levels_code}
use Rattle.mp_kernel.specs.declared.events.fanout_entry.FanoutEntry.{FanoutEntry}
use Rattle.mp_kernel.specs.declared.events.output_port.OutputPort.{OutputPort}
use Rattle.mp_kernel.specs.declared.events.output_ports.OutputPorts.{OutputPorts}
use Rattle.mp_kernel.specs.events.Adding.{state_at, listed}
use Rattle.mp_kernel.specs.events.Toggling.{wave_at}
use Rattle.mp_kernel.specs.events.Ports.{HasPorts}
use Rattle.mp_kernel.specs.events.Firing.{UnitState, reaction, number_of, next_state, AreNumbered, HasSlot, HaveSlots, ports_at, no_port, scheduled, fired_by}
use Rattle.mp_kernel.specs.events.LevelFlips.{levels_at}
use Rattle.mp_simulation.specs.declared.bits.simulator.Simulator.{Simulator}
use Rattle.mp_simulation.specs.bits.Changes.{change_at, is_decided}
use Rattle.mp_simulation.specs.bits.Schedules.{output_port_of, output_ports_of, IsFiring, IsUndrivenBy}
use Rattle.mp_simulation.specs.bits.Scopes.{Scope, is_expected, known_after, with_answers}
use Rattle.mp_simulation.specs.bits.Simulators.{slot_at, IsSound}
use Rattle.mp_simulation.specs.bits.Traces.{IsTrace}
use Rattle.mp_simulation.specs.bits.Units.{IsLaidOut, HaveEvents, HaveLevels, rest_state_at, IsBefore, IsDuring}
use Rattle.mp_simulation.proofs.lemmas.bits.AdvanceLemmas.{states_advance, levels_advance}
use Rattle.mp_simulation.proofs.lemmas.bits.ScheduleLemmas.{inside, few_ports, firing_schedules, firing_leaves_others}
use Rattle.mp_simulation.proofs.lemmas.bits.FireLemmas.{IsFired, after, due_once, due_placed}
use Rattle.mp_simulation.proofs.lemmas.bits.IdleLemmas.{sleeps, rests, idle_rests, idle_quiet, flips_when}

abbrev port_module : Driver → ℕ
port_module Nothing = 0
port_module Stimulus = 0
port_module (Port m p) = m.0

none_is_some : (o : Option ℕ) (q : ℕ) → o ≡ None → o ≡ Some q → ⊥
none_is_some o q none is = cc

has_slot : (units p : ℕ) (ports : OutputPorts) (r : ModuleRecord) → HaveSlots units ports → ports ≡ output_ports_of r → p < 3 → HasSlot units (output_port_of (output_at r p))
has_slot units zero ports r have is low = subst (λ (port : OutputPort). HasSlot units port) (ap (λ (o : OutputPorts). o.first) is) have.first
has_slot units (suc zero) ports r have is low = subst (λ (port : OutputPort). HasSlot units port) (ap (λ (o : OutputPorts). o.second) is) have.second
has_slot units (suc (suc zero)) ports r have is low = subst (λ (port : OutputPort). HasSlot units port) (ap (λ (o : OutputPorts). o.third) is) have.third
has_slot units (suc (suc (suc p))) ports r have is low = absurd (omega arith)

-- one more change is known, or none
one_bit : (c : Bool) → bit (c && false && true) + bit (c && true) ≡ bit (c && true && true)
one_bit true = refl
one_bit false = refl

no_bit : (d : Bool) (x : ℕ) → x + bit (d && false) ≡ x
no_bit true x = omega arith
no_bit false x = omega arith

pub same_test : (u a b : ℕ) (t : Bool) → nat_lt u a ≡ t → b ≡ a + 1 → (u ≡ a → ⊥) → nat_lt u a ≡ nat_lt u b
same_test u a b true is next other = is ∙ sym (let now : nat_lt u b ≡ true = grind (arith, nat_tests) in now)
same_test u a b false is next other =
    let beyond : a ≤ u = grind (arith, nat_tests) in
    let differs : u ≢ a = other in
    let far : b ≤ u = omega arith in
    is ∙ sym (let now : nat_lt u b ≡ false = grind (arith, nat_tests) in now)

pub sum_bits : (c d owns was is entry : Bool) → (entry ≡ true → (was ≡ false) × (is ≡ true) × (owns ≡ true) × (d ≡ c)) → (entry ≡ false → was ≡ is) →
    bit (c && was && owns) + bit (d && entry) ≡ bit (c && is && owns)
sum_bits c d owns was is true now before =
    let facts = now refl in
    rw (facts.0, facts.1, facts.2, facts.3) (one_bit c)
sum_bits c d owns was is false now before = rw (before refl) (no_bit d (bit (c && is && owns)))

module _ (s new : Simulator) (sound : IsSound s) (is : IsFired s new) (n : Circuit) (ok : IsCircuit n) (scope : Scope) (t : ℕ) (during : IsDuring n scope t s) where
  abbrev unit_at : ℕ → UnitState
  unit_at q = during.units q

  state_here : (q : ℕ) → q < length s.states.items → state_at new.states.items q ≡ cond (listed q s.due.items == 0) (state_at s.states.items q) (next_state (during.units q)).0
  state_here q within = is.states during.units during.numbered q within

  number_when : (q : ℕ) (idle : Bool) → (listed q s.due.items == 0) ≡ idle → q < length s.states.items →
      cond idle (state_at s.states.items q) (next_state (during.units q)).0 ≡ number_of (after (during.units q))
  number_when q true idle within =
      let u = during.units q in
      let none = eqb-true (listed q s.due.items) 0 idle in
      let quiet_u = idle_quiet s sound n ok scope t during q within none in
      let stays = idle_rests s sound n ok scope t during q (scope.is_active q) refl within quiet_u in
      during.numbered q within
      ∙ ap (λ (e : Events). number_of (let k : UnitState = record { automaton = u.automaton; phase = u.phase; events = e } in k)) quiet_u
      ∙ ap (λ (p : Phase). number_of (let k : UnitState = record { automaton = u.automaton; phase = p; events = no_events } in k)) (sym (ap (λ (k : Reaction). k.phase) stays))
  number_when q false idle within = refl

  numbered_next : AreNumbered new.states.items (λ q. after (during.units q))
  numbered_next q within =
      let places = is.places in
      let low : q < length s.states.items = omega arith in
      state_here q low ∙ number_when q (listed q s.due.items == 0) refl low

  active_next : (m q : ℕ) (r : ModuleRecord) → module_at n m ≡ Some r → scope.place m ≡ Some q → after (during.units q) ≡ rest_state_at n r m (t + 1)
  active_next m q r at place =
      let seat = during.layout.seats m q r at place in
      let next = states_advance n ok m t r at seat.of_bits (seat.state_bits t) (seat.input_bits (t + 1)) in
      ap after (during.active m q r at place)
      ∙ ap (λ (p : Phase). let k : UnitState = record { automaton = automaton_of (built n r); phase = p; events = no_events } in k) next.phase

  levels_next : HaveLevels n (with_answers scope (t + 2)) (t + 1) new
  levels_next m q r at place =
      let seat = during.layout.seats m q r at place in
      let long = sound.levels in
      let within = seat.within in
      is.levels during.units during.numbered q (omega arith)
      ∙ flips_when s sound n ok scope t during q (levels_at s.levels.items q) (listed q s.due.items == 0) refl seat.within
      ∙ ap (λ x. bit_xor x (ports_code (during.units q).events (reaction (during.units q)).toggles)) (during.levels m q r at place)
      ∙ ap (λ (u : UnitState). bit_xor (levels_code (state n m t)) (ports_code u.events (reaction u).toggles)) (during.active m q r at place)
      ∙ levels_advance n ok m t r at seat.of_bits seat.state_bits (seat.input_bits (t + 1))

  firing : IsFiring n scope.place scope.is_active t during.units s.outputs s.due.items
  firing = record {
    placed = λ k d within active. during.layout.placed (slice_index_or s.due.items k d) (due_placed s sound k d within) active;
    asleep = λ q asleep. ap (λ (k : Reaction). k.toggles) (sleeps (during.units q).automaton (during.units q).phase (during.units q).events (during.asleep q asleep));
    drives = λ m q r at place. (during.layout.seats m q r at place).drives;
    toggled = λ m q r at place.
        let seat = during.layout.seats m q r at place in
        ap (λ (u : UnitState). (reaction u).toggles) (during.active m q r at place)
        ∙ (states_advance n ok m t r at seat.of_bits (seat.state_bits t) (seat.input_bits (t + 1))).toggles;
    once = due_once s sound;
    idle = λ m q r at place none.
        let seat = during.layout.seats m q r at place in
        ap (λ (k : Reaction). k.toggles)
        (rests n ok scope s m q t r seat (during.units q) (during.active m q r at place) (idle_quiet s sound n ok scope t during q seat.within none));
  }

  layout_next : IsLaidOut n (with_answers scope (t + 2)) new
  layout_next =
      let b = during.layout in
      record {
        ports = λ q. subst (λ (rows : List (List FanoutEntry)). HasPorts rows q (scope.inputs q)) (sym is.fanout) (b.ports q);
        seats = λ m q r at place.
            let seat = b.seats m q r at place in
            record {
              within = let a = seat.within in let long = is.places in omega arith;
              active = seat.active;
              of_bits = seat.of_bits;
              state_bits = seat.state_bits;
              input_bits = seat.input_bits;
              reads = seat.reads;
              drives = ap (λ (xs : List OutputPorts). ports_at xs q) is.outputs ∙ seat.drives;
              owned = λ w p u drv late.
                  let known = during.answered m q place in
                  let later : known_after (scope.place m) (t + 2) (scope.known m) ≡ t + 2 = ap (λ (o : Option ℕ). known_after o (t + 2) (scope.known m)) place in
                  seat.owned w p u drv (omega arith);
            };
        placed = λ q within active. b.placed q (let long = is.places in omega arith) active;
      }

  slot_is : (k : ℕ) → slot_at new k ≡ slice_index_or (scheduled s.wheel (fired_by during.units s.outputs s.due.items)) k []
  slot_is k = ap (λ (xs : List (List ℕ)). slice_index_or xs k []) (is.wheel during.units during.numbered)

  -- a wire that no active module drives
  other_events : (w k : ℕ) → k < length s.wheel → IsUndrivenBy n scope.place w → listed w (slot_at new k) ≡ bit (is_expected n scope w (t + 1 + 1 + k))
  other_events w k within none =
      ap (λ xs. listed w xs) (slot_is k)
      ∙ firing_leaves_others n ok scope.place scope.is_active t during.units s.outputs s.due.items s.wheel firing w k none within
      ∙ during.events w k within

  slots_of : (m q p : ℕ) (r : ModuleRecord) (w : ℕ) → module_at n m ≡ Some r → scope.place m ≡ Some q → (output_at r p).wire ≡ Some (record { 0 = w }) →
      HasSlot (length s.wheel) (output_port_of (output_at r p))
  slots_of m q p r w at place wire =
      let seat = during.layout.seats m q r at place in
      let low : q < length s.outputs = (let a = seat.within in let same = sound.outputs in omega arith) in
      has_slot (length s.wheel) p (ports_at s.outputs q) r (sound.within q (record { first = no_port; second = no_port; third = no_port }) low) seat.drives (few_ports n ok m p w r at wire)

  -- a wire that an active module drives
  driven_events : (w k p q : ℕ) (m : ModuleId) (r : ModuleRecord) → k < length s.wheel → driver n w ≡ Port m p → module_at n m.0 ≡ Some r → scope.place m.0 ≡ Some q →
      (output_at r p).wire ≡ Some (record { 0 = w }) →
      listed w (slot_at new k) ≡ bit (change_at n w (t + 1 + 1 + k) && nat_lt (t + 1 + 1 + k) (t + 2 + delay_of r p) && scope.owns w (t + 1 + 1 + k))
  driven_events w k p q m r within drives at place wire =
      let d = delay_of r p in
      let u = t + 1 + 1 + k in
      let slot = slots_of m.0 q p r w at place wire in
      let seat = during.layout.seats m.0 q r at place in
      let known = during.answered m.0 q place in
      let some_delay : 0 < delay_of r p = slot.some in
      let old : listed w (slot_at s k) ≡ bit (change_at n w u && nat_lt u (t + 1 + d) && scope.owns w u) =
      during.events w k within
      ∙ ap (λ (k : Driver). bit (change_at n w u && is_decided n scope.known k u && scope.owns w u)) drives
      ∙ ap (λ o. bit (change_at n w u && nat_lt u (scope.known m.0 + delay_in o p) && scope.owns w u)) at
      ∙ ap (λ x. bit (change_at n w u && nat_lt u (x + d) && scope.owns w u)) known in
      let drv : Drives n m.0 p w = record { part = r; stands = at; output = wire } in
      ap (λ xs. listed w xs) (slot_is k)
      ∙ firing_schedules n ok scope.place scope.is_active t during.units s.outputs s.due.items s.wheel firing w p q k m r drives at place some_delay within
      ∙ ap (λ x. x + bit (change_at n w (t + 1 + d) && (d - 1 == k))) old
      ∙ sum_bits (change_at n w u) (change_at n w (t + 1 + d)) (scope.owns w u) (nat_lt u (t + 1 + d)) (nat_lt u (t + 2 + d)) (d - 1 == k)
      (λ here.
      let same : d - 1 ≡ k = eqb-true (d - 1) k here in
      let time : t + 1 + d ≡ u = omega arith in
      let was : nat_lt u (t + 1 + d) ≡ false = grind (arith, nat_tests) in
      let now : nat_lt u (t + 2 + d) ≡ true = grind (arith, nat_tests) in
      (was, now, seat.owned w p u drv (omega arith), ap (change_at n w) time))
      (λ else_where. let differs = eqb-false (d - 1) k else_where in same_test u (t + 1 + d) (t + 2 + d) (nat_lt u (t + 1 + d)) refl (omega arith) (λ e. absurd (omega arith)))

  by_place : (w k p : ℕ) (m : ModuleId) (r : ModuleRecord) (o : Option ℕ) → k < length s.wheel → driver n w ≡ Port m p → module_at n m.0 ≡ Some r → scope.place m.0 ≡ o →
      (output_at r p).wire ≡ Some (record { 0 = w }) →
      listed w (slot_at new k) ≡ bit (change_at n w (t + 1 + 1 + k) && nat_lt (t + 1 + 1 + k) (known_after o (t + 2) (scope.known m.0) + delay_of r p) && scope.owns w (t + 1 + 1 + k))
  by_place w k p m r None within drives at place wire =
      let u = t + 1 + 1 + k in
      other_events w k within
      (λ m2 p2 q2 drv at2.
      let same : m2 ≡ m.0 = ap port_module (sym (finds_ports n ok m2 p2 w drv) ∙ drives) in
      none_is_some (scope.place m.0) q2 place (ap scope.place (sym same) ∙ at2))
      ∙ ap (λ (k : Driver). bit (change_at n w u && is_decided n scope.known k u && scope.owns w u)) drives
      ∙ ap (λ o. bit (change_at n w u && nat_lt u (scope.known m.0 + delay_in o p) && scope.owns w u)) at
  by_place w k p m r (Some q) within drives at place wire = driven_events w k p q m r within drives at place wire

  by_driver : (w k : ℕ) (d : Driver) → k < length s.wheel → driver n w ≡ d →
      listed w (slot_at new k) ≡ bit (change_at n w (t + 1 + 1 + k) && is_decided n (with_answers scope (t + 2)).known d (t + 1 + 1 + k) && scope.owns w (t + 1 + 1 + k))
  by_driver w k Nothing within drives =
      let u = t + 1 + 1 + k in
      other_events w k within (λ m p q drv place. portless_is_undriven n ok w (ap is_port drives) m p drv)
      ∙ ap (λ (k : Driver). bit (change_at n w u && is_decided n scope.known k u && scope.owns w u)) drives
  by_driver w k Stimulus within drives =
      let u = t + 1 + 1 + k in
      other_events w k within (λ m p q drv place. portless_is_undriven n ok w (ap is_port drives) m p drv)
      ∙ ap (λ (k : Driver). bit (change_at n w u && is_decided n scope.known k u && scope.owns w u)) drives
  by_driver w k (Port m p) within drives =
      let u = t + 1 + 1 + k in
      let drv = finds_only_ports n w p m drives in
      by_place w k p m drv.part (scope.place m.0) within drives drv.stands refl drv.output
      ∙ sym (ap (λ o. bit (change_at n w u && nat_lt u ((with_answers scope (t + 2)).known m.0 + delay_in o p) && scope.owns w u)) drv.stands)

  events_next : HaveEvents n (with_answers scope (t + 2)) (t + 1) new
  events_next w k within =
      let long = is.units in
      by_driver w k (driver n w) (omega arith) refl

  room_when : (w p : ℕ) (m : ModuleId) (r : ModuleRecord) (o : Option ℕ) → driver n w ≡ Port m p → module_at n m.0 ≡ Some r → scope.place m.0 ≡ o →
      known_after o (t + 2) (scope.known m.0) + delay_of r p ≤ t + 1 + 1 + length s.wheel
  room_when w p m r None drives at place = during.room w p m r drives at
  room_when w p m r (Some q) drives at place =
      let drv = finds_only_ports n w p m drives in
      let wire : (output_at r p).wire ≡ Some (record { 0 = w }) =
      subst (λ (k : ModuleRecord). (output_at k p).wire ≡ Some (record { 0 = w })) (inside (sym drv.stands ∙ at)) drv.output in
      let room : delay_of r p ≤ length s.wheel = (slots_of m.0 q p r w at place wire).room in
      omega arith

  pub fired : IsBefore n (with_answers scope (t + 2)) (t + 1) new
  fired = record {
    stands = record {
      layout = layout_next;
      units = λ q. after (during.units q);
      numbered = numbered_next;
      asleep = during.asleep;
      active = active_next;
      levels = levels_next;
      answered = λ m q place. ap (λ (o : Option ℕ). known_after o (t + 2) (scope.known m)) place ∙ (let e : t + 2 ≡ t + 1 + 1 = omega arith in e);
      waves = λ w within traced.
          subst (λ (xs : List Waveform). IsTrace (level n w) (t + 1) (wave_at xs w)) (sym is.waves)
          (during.waves w (let a = ap (length {A = Waveform}) is.waves in omega arith) traced);
      events = events_next;
      room = λ w p m r drives at. let a = room_when w p m r (scope.place m.0) drives at refl in let long = is.units in omega arith;
    };
    due = is.due;
  }
