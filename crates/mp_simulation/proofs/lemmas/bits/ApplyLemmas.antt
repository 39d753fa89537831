-- A unit begins: wires toggle, and modules have their events.
use Rattle.std.proofs.Common.{◌≡◌, ℕ, suc, ◌+◌, ◌-◌, ◌%◌, ◌<◌, ◌≤◌, Bool, true, false, not, cond, nat_lt, drop, List, [], ◌∷◌, ◌++◌, length, Some, All, refl, sym, ap, ◌∙◌, arith, subst}
use Rattle.std.specs.Prelude.{◌==◌, ◌&&◌, slice_index_or}
use Rattle.std.proofs.lemmas.Bool.{eqb-true}
use Rattle.std.proofs.lemmas.Bool.Decides.{nat_tests}
use Rattle.std.proofs.lemmas.List.Elements.{All-append}
use Rattle.std.proofs.lemmas.Grind.{flat_map-append}
use Rattle.std.proofs.Math.ListN.{get_or-eq_default}
use Rattle.mp_wave.specs.Waveform.{Waveform}
use Rattle.mp_records.specs.declared.module_record.ModuleRecord.{ModuleRecord}
use Rattle.mp_records.specs.Outputs.{delay_of}
use Rattle.mp_netlist.specs.declared.driver.Driver.{Driver}
use Rattle.mp_netlist.specs.declared.driver.Driver.TheVariants.{Nothing, Stimulus, Port}
use Rattle.mp_netlist.specs.Circuit.{Circuit, IsCircuit, module_at}
use Rattle.mp_netlist.specs.Drivers.{driver}
use Rattle.mp_netlist.proofs.DriverLemmas.{finds_only_ports}
use Rattle.mp_model.specs.Evaluations.{delay_in}
use Rattle.mp_model.specs.Levels.{built, inputs_by}
use Rattle.mp_model.specs.Waves.{level, state}
use Rattle.mp_modules.specs.declared.automata.automaton_state.AutomatonState.{AutomatonState}
use Rattle.mp_modules.specs.declared.automata.port_levels.PortLevels.{PortLevels}
use Rattle.mp_modules.specs.declared.automata.events.Events.{Events}
use Rattle.mp_modules.specs.automata.Automata.{automaton_of}
use Rattle.mp_modules.specs.automata.Phases.{phase_of}
use Rattle.mp_modules.specs.automata.BitModules.{events_in}
use Rattle.mp_modules.specs.automata.Codes.{bit, events_code}
use Rattle.mp_modules.proofs.lemmas.automata.CodeLemmas.{events_low}
use Rattle.mp_kernel.specs.declared.events.fanout_entry.FanoutEntry.{FanoutEntry}
use Rattle.mp_kernel.specs.declared.events.output_ports.OutputPorts.{OutputPorts}
use Rattle.mp_kernel.specs.events.Adding.{state_at, events_for, listed, AreAdded, IsAdding}
use Rattle.mp_wave.specs.ToggleWaves.{toggled_at}
use Rattle.mp_kernel.specs.events.Toggling.{row_at, wave_at, entries_from, AreToggled}
use Rattle.mp_kernel.specs.events.Ports.{HasPorts}
use Rattle.mp_kernel.specs.events.Firing.{UnitState, AreNumbered, HaveSlots, ports_at}
use Rattle.mp_kernel.specs.events.LevelFlips.{levels_at}
use Rattle.mp_kernel.proofs.lemmas.events.AddingLemmas.{added_both}
use Rattle.mp_kernel.proofs.lemmas.events.PortLemmas.{events_add_up}
use Rattle.mp_simulation.specs.declared.bits.simulator.Simulator.{Simulator}
use Rattle.mp_simulation.specs.bits.Changes.{change_at, is_decided}
use Rattle.mp_simulation.specs.bits.Advancing.{unit_state_at}
use Rattle.mp_simulation.specs.bits.Scopes.{Scope, is_expected}
use Rattle.mp_simulation.specs.bits.Simulators.{next_slot, slot_at, AreBelow, IsSound, CanApply, AreOnlyDue}
use Rattle.mp_simulation.specs.bits.Traces.{IsTrace}
use Rattle.mp_simulation.specs.bits.Units.{IsLaidOut, HaveWaves, HaveEvents, IsBefore, IsDuring, AreDue}
use Rattle.mp_simulation.proofs.lemmas.bits.TraceLemmas.{traces_grow}
use Rattle.mp_simulation.proofs.lemmas.bits.PortEventLemmas.{ports_have_events}
use Rattle.mp_simulation.proofs.lemmas.bits.ListedLemmas.{all_below}
use Rattle.mp_simulation.proofs.lemmas.bits.TurnLemmas.{turned_length, turned_at}
use Rattle.mp_simulation.proofs.lemmas.bits.NumberLemmas.{events_with, events_of_code, events_part, with_events, numbered_with}

-- what becomes of a simulator when a unit begins
pub record IsApplied (s new : Simulator) (set others : List ℕ) (time : ℕ) : Type 0 where
  pub turned : new.wheel ≡ drop 1 s.wheel ++ [] ∷ []
  pub fanout : new.fanout ≡ s.fanout
  pub levels : new.levels.items ≡ s.levels.items
  pub outputs : new.outputs ≡ s.outputs
  pub added : AreAdded s.states.items new.states.items (entries_from s.fanout (next_slot s ++ set) ++ entries_from s.fanout others)
  pub adding : IsAdding new.states.items new.due.items []
  pub places : length new.states.items ≡ length s.states.items
  pub waves : AreToggled s.waves new.waves (next_slot s ++ set) time

pub is_applied : (s new : Simulator) (set others wires : List ℕ) (time : ℕ) (mid : List AutomatonState) →
    wires ≡ next_slot s ++ set → new.wheel ≡ drop 1 s.wheel ++ [] ∷ [] → new.fanout ≡ s.fanout → new.levels.items ≡ s.levels.items → new.outputs ≡ s.outputs →
    AreAdded s.states.items mid (entries_from s.fanout wires) → AreAdded mid new.states.items (entries_from s.fanout others) →
    IsAdding new.states.items new.due.items [] → length new.states.items ≡ length s.states.items → AreToggled s.waves new.waves wires time →
    IsApplied s new set others time
is_applied s new set others wires time mid same turned fanout levels outputs first then adding places waves = record {
  turned = turned;
  fanout = fanout;
  levels = levels;
  outputs = outputs;
  added = added_both (entries_from s.fanout (next_slot s ++ set)) (entries_from s.fanout others)
      (subst (λ ws. AreAdded s.states.items mid (entries_from s.fanout ws)) same first) then;
  adding = adding;
  places = places;
  waves = subst (λ ws. AreToggled s.waves new.waves ws time) same waves;
}

-- the wires that toggle have waves
pub all_waved : (s : Simulator) (set : List ℕ) → IsSound s → All (λ w. w < length s.waves) set → All (λ w. w < length s.waves) (next_slot s ++ set)
all_waved s set sound waved =
    All-append (λ w. w < length s.waves) (next_slot s) set (all_below (length s.waves) (next_slot s) (λ w high. sound.waved w 0 high)) waved

pub all_rowed : (s : Simulator) (wires : List ℕ) → IsSound s → All (λ w. w < length s.waves) wires → All (λ w. w < length s.fanout) wires
all_rowed s wires sound waved k d within =
    let low : slice_index_or wires k d < length s.waves = waved k d within in
    let rows = sound.rows in
    omega arith

by_parts : (a b c : Bool) → b ≡ false → (a && b && c) ≡ false
by_parts true b c none = rw none refl
by_parts false b c none = refl

kept : (b : Bool) → bit (b && true) ≡ bit b
kept true = refl
kept false = refl

by_change : {A : Type 0} (b : Bool) (x y : A) → cond (bit b == 0) x y ≡ cond b y x
by_change true x y = refl
by_change false x y = refl

unexpected : (n : Circuit) (scope : Scope) (w u : ℕ) → is_decided n scope.known (driver n w) u ≡ false → is_expected n scope w u ≡ false
unexpected n scope w u none = by_parts (change_at n w u) (is_decided n scope.known (driver n w) u) (scope.owns w u) none

idle_when : (r n : ℕ) (t : Bool) → (r == 0) ≡ t → n ≡ cond t 0 1 → n ≡ 0 → r ≡ 0
idle_when r n true is once none = eqb-true r 0 is
idle_when r n false is once none = absurd (omega arith)

-- a place that isn't due has had no event
pub only_due : (s : Simulator) (set others wires : List ℕ) (time : ℕ) (mid new : List AutomatonState) (due : List ℕ) → IsSound s → CanApply s set others time → wires ≡ next_slot s ++ set →
    AreAdded s.states.items mid (entries_from s.fanout wires) → AreAdded mid new (entries_from s.fanout others) → IsAdding new due [] → s.due.items ≡ [] →
    AreOnlyDue s.fanout ((next_slot s ++ set) ++ others) due
only_due s set others wires time mid new due sound fit same first then adding none q idle =
    let all = added_both (entries_from s.fanout (next_slot s ++ set)) (entries_from s.fanout others)
    (subst (λ ws. AreAdded s.states.items mid (entries_from s.fanout ws)) same first) then in
    let joined : entries_from s.fanout ((next_slot s ++ set) ++ others) ≡ entries_from s.fanout (next_slot s ++ set) ++ entries_from s.fanout others =
    flat_map-append (row_at s.fanout) (next_slot s ++ set) others in
    let parts = ap (λ xs. events_for q xs) joined in
    let was = idle_when (state_at s.states.items q % 16) (listed q s.due.items) (state_at s.states.items q % 16 == 0) refl (sound.events.once q) (ap (λ xs. listed q xs) none) in
    let now = idle_when (state_at new q % 16) (listed q due) (state_at new q % 16 == 0) refl (adding.once q) idle in
    let more = all.each q in
    let room = fit.adding.room q in
    omega arith

module _ (s new : Simulator) (set others : List ℕ) (time : ℕ) (sound : IsSound s) (fit : CanApply s set others time) (is : IsApplied s new set others time) where
  slot_is : (k : ℕ) → slot_at new k ≡ slot_at s (suc k)
  slot_is k = ap (λ (xs : List (List ℕ)). slice_index_or xs k []) is.turned ∙ turned_at s.wheel k

  long_as : length new.wheel ≡ length s.wheel
  long_as = ap (length {A = List ℕ}) is.turned ∙ turned_length s.wheel sound.some

  waved_as : length new.waves ≡ length s.waves
  waved_as = is.waves.placed

  numbered_now : (units : ℕ → UnitState) → AreNumbered s.states.items units → AreNumbered new.states.items (λ q. with_events (units q) (state_at new.states.items q))
  numbered_now units numbered q within =
      let long = is.places in
      numbered_with (units q) (state_at s.states.items q) (state_at new.states.items q)
      (events_for q (entries_from s.fanout (next_slot s ++ set) ++ entries_from s.fanout others))
      (numbered q (omega arith)) (is.added.each q) (fit.adding.room q)

  pub applied_sound : IsSound new
  applied_sound = record {
    units = λ q. with_events (sound.units q) (state_at new.states.items q);
    numbered = numbered_now sound.units sound.numbered;
    events = is.adding;
    levels = ap (length {A = PortLevels}) is.levels ∙ sound.levels ∙ sym is.places;
    outputs = ap (length {A = OutputPorts}) is.outputs ∙ sound.outputs ∙ sym is.places;
    rows = let rows = sound.rows in let a = waved_as in let b = ap (length {A = List FanoutEntry}) is.fanout in omega arith;
    placed = λ x. subst (λ (rows : List (List FanoutEntry)). All (λ (l : FanoutEntry). l.module < length new.states.items) (row_at rows x)) (sym is.fanout)
        (subst (λ k. All (λ (l : FanoutEntry). l.module < k) (row_at s.fanout x)) (sym is.places) (sound.placed x));
    eventful = λ x. subst (λ (rows : List (List FanoutEntry)). All (λ (l : FanoutEntry). 0 < l.event) (row_at rows x)) (sym is.fanout) (sound.eventful x);
    some = let some = sound.some in let a = long_as in omega arith;
    within = subst (λ (xs : List OutputPorts). All (HaveSlots (length new.wheel)) xs) (sym is.outputs) (subst (λ k. All (HaveSlots k) s.outputs) (sym long_as) sound.within);
    driven = subst (λ (xs : List OutputPorts). All (AreBelow (length new.waves)) xs) (sym is.outputs) (subst (λ k. All (AreBelow k) s.outputs) (sym waved_as) sound.driven);
    waved = λ w k high. ap (λ xs. listed w xs) (slot_is k) ∙ (let a = waved_as in sound.waved w (suc k) (omega arith));
  }

  module _ (n : Circuit) (ok : IsCircuit n) (scope : Scope) (t : ℕ) (now : time ≡ t + 1) (before : IsBefore n scope t s) (due : AreDue n scope t (next_slot s ++ set) others) where
    layout_now : IsLaidOut n scope new
    layout_now =
        let b = before.stands.layout in
        record {
          ports = λ q. subst (λ (rows : List (List FanoutEntry)). HasPorts rows q (scope.inputs q)) (sym is.fanout) (b.ports q);
          seats = λ m q r at place.
              let seat = b.seats m q r at place in
              record {
                within = let a = seat.within in let long = is.places in omega arith;
                active = seat.active;
                of_bits = seat.of_bits;
                state_bits = seat.state_bits;
                input_bits = seat.input_bits;
                reads = seat.reads;
                drives = ap (λ (xs : List OutputPorts). ports_at xs q) is.outputs ∙ seat.drives;
                owned = seat.owned;
              };
          placed = λ q within active. b.placed q (let long = is.places in omega arith) active;
        }

    -- what a place hears in this unit
    heard : List ℕ
    heard = (next_slot s ++ set) ++ others

    entries_are : entries_from s.fanout ((next_slot s ++ set) ++ others) ≡ entries_from s.fanout (next_slot s ++ set) ++ entries_from s.fanout others
    entries_are = flat_map-append (row_at s.fanout) (next_slot s ++ set) others

    -- the events of an active module
    events_are : (m q : ℕ) (r : ModuleRecord) → module_at n m ≡ Some r → scope.place m ≡ Some q →
        state_at new.states.items q % 16 ≡ events_code (events_in (state n m t) (inputs_by n (level n) r (t + 1)))
    events_are m q r at place =
        let seat = before.stands.layout.seats m q r at place in
        let e = events_in (state n m t) (inputs_by n (level n) r (t + 1)) in
        let own = ports_have_events n ok m t r scope.source (scope.inputs q) ((next_slot s ++ set) ++ others) at seat.reads (due.heard q seat.active) in
        let sum = events_add_up s.fanout q (scope.inputs q) ((next_slot s ++ set) ++ others) e (before.stands.layout.ports q) own in
        let parts = ap (λ xs. events_for q xs) entries_are in
        let more = is.added.each q in
        let was = before.stands.numbered q seat.within in
        let quiet : events_code (before.stands.units q).events ≡ 0 = ap (λ (u : UnitState). events_code u.events) (before.stands.active m q r at place) in
        let part = events_part (before.stands.units q) in
        let old_part : state_at s.states.items q % 16 ≡ 0 = ap (λ k. k % 16) was ∙ part ∙ quiet in
        let low = events_low e in
        omega arith

    units_now : (m q : ℕ) (r : ModuleRecord) → module_at n m ≡ Some r → scope.place m ≡ Some q →
        with_events (before.stands.units q) (state_at new.states.items q) ≡ unit_state_at n r m t
    units_now m q r at place =
        ap (λ (u : UnitState). with_events u (state_at new.states.items q)) (before.stands.active m q r at place)
        ∙ ap (λ (e : Events). let u : UnitState = record { automaton = automaton_of (built n r); phase = phase_of (built n r) (state n m t); events = e } in u)
        (ap events_with (events_are m q r at place) ∙ events_of_code (events_in (state n m t) (inputs_by n (level n) r (t + 1))))

    waves_now : HaveWaves n scope (t + 1) new
    waves_now w within traced =
        let low : w < length s.waves = (let a = waved_as in omega arith) in
        let wave = wave_at s.waves w in
        let is_new : wave_at new.waves w ≡ cond (not (level n w t == level n w (t + 1))) (toggled_at wave (t + 1)) wave =
        is.waves.each w
        ∙ ap (λ u. cond (listed w (next_slot s ++ set) == 0) wave (toggled_at wave u)) now
        ∙ ap (λ k. cond (k == 0) wave (toggled_at wave (t + 1))) (due.toggled w ∙ ap (λ b. bit (change_at n w (t + 1) && b)) traced ∙ kept (change_at n w (t + 1)))
        ∙ by_change (change_at n w (t + 1)) wave (toggled_at wave (t + 1))
        ∙ ap (λ u. cond (not (level n w u == level n w (t + 1))) (toggled_at wave (t + 1)) wave) (let e : t + 1 - 1 ≡ t = omega arith in e) in
        subst (λ (v : Waveform). IsTrace (level n w) (t + 1) v) (sym is_new) (traces_grow (level n w) t wave (before.stands.waves w low traced))

    -- a change behind the last slot isn't known
    undecided : (w u : ℕ) (d : Driver) → driver n w ≡ d → t + 1 + length s.wheel ≤ u → is_decided n scope.known (driver n w) u ≡ false
    undecided w u Nothing drives far = ap (λ (d : Driver). is_decided n scope.known d u) drives
    undecided w u Stimulus drives far = ap (λ (d : Driver). is_decided n scope.known d u) drives
    undecided w u (Port m p) drives far =
        let drv = finds_only_ports n w p m drives in
        let room = before.stands.room w p m drv.part drives drv.stands in
        let late : nat_lt u (scope.known m.0 + delay_of drv.part p) ≡ false = grind (arith, nat_tests) in
        ap (λ (d : Driver). is_decided n scope.known d u) drives
        ∙ ap (λ slot. nat_lt u (scope.known m.0 + delay_in slot p)) drv.stands
        ∙ late

    slot_when : (w k : ℕ) (low : Bool) → nat_lt (suc k) (length s.wheel) ≡ low → listed w (slot_at s (suc k)) ≡ bit (is_expected n scope w (t + 1 + 1 + k))
    slot_when w k true low =
        let within : suc k < length s.wheel = grind (arith, nat_tests) in
        let same : t + 1 + suc k ≡ t + 1 + 1 + k = omega arith in
        before.stands.events w (suc k) within ∙ ap (λ u. bit (is_expected n scope w u)) same
    slot_when w k false low =
        let beyond : length s.wheel ≤ suc k = grind (arith, nat_tests) in
        ap (λ xs. listed w xs) (get_or-eq_default s.wheel [] beyond)
        ∙ sym (ap bit (unexpected n scope w (t + 1 + 1 + k)
        (undecided w (t + 1 + 1 + k) (driver n w) refl (omega arith))))

    events_now : HaveEvents n scope (t + 1) new
    events_now w k within =
        ap (λ xs. listed w xs) (slot_is k)
        ∙ slot_when w k (nat_lt (suc k) (length s.wheel)) refl

    pub applied : IsDuring n scope t new
    applied = record {
      layout = layout_now;
      units = λ q. with_events (before.stands.units q) (state_at new.states.items q);
      numbered = numbered_now before.stands.units before.stands.numbered;
      asleep = before.stands.asleep;
      active = units_now;
      levels = λ m q r at place. ap (λ (xs : List PortLevels). levels_at xs q) is.levels ∙ before.stands.levels m q r at place;
      answered = before.stands.answered;
      waves = waves_now;
      events = events_now;
      room = λ w p m r drives at. let a = before.stands.room w p m r drives at in let b = long_as in omega arith;
    }
