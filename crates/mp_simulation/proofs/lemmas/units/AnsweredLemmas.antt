-- Within a unit, when the modules of width 1 have had their events and those with data have answered.
use Rattle.std.proofs.Common.{◌≡◌, ℕ, suc, ◌+◌, ◌-◌, ◌<◌, ◌≤◌, Bool, true, false, nat_lt, drop, List, [], ◌∷◌, ◌++◌, Option, Some, None, All, length, map, refl, sym, ap, ◌∙◌, arith, subst}
use Rattle.std.specs.Prelude.{◌==◌, ◌&&◌, slice_index, slice_index_or}
use Rattle.std.proofs.lemmas.Bool.Decides.{nat_tests}
use Rattle.std.proofs.lemmas.List.Elements.{All-append}
use Rattle.std.proofs.Math.ListN.{get_or-eq_default}
use Rattle.mp_records.specs.declared.ids.ModuleId.{ModuleId}
use Rattle.mp_records.specs.declared.module_record.ModuleRecord.{ModuleRecord}
use Rattle.mp_records.specs.Outputs.{delay_of}
use Rattle.mp_netlist.specs.declared.driver.Driver.TheVariants.{Port}
use Rattle.mp_netlist.specs.Circuit.{Circuit, IsCircuit, module_at}
use Rattle.mp_netlist.specs.Drivers.{driver}
use Rattle.mp_netlist.proofs.DriverLemmas.{finds_only_ports}
use Rattle.mp_model.specs.Evaluations.{delay_in}
use Rattle.mp_model.proofs.EvaluationLemmas.{delay_positive}
use Rattle.mp_modules.specs.automata.Codes.{bit}
use Rattle.mp_kernel.specs.declared.events.output_port.OutputPort.{OutputPort}
use Rattle.mp_kernel.proofs.lemmas.events.EntryLemmas.{schedules_each}
use Rattle.mp_kernel.specs.events.Adding.{listed}
use Rattle.mp_kernel.specs.events.Ports.{HasPorts}
use Rattle.mp_kernel.specs.events.Firing.{HaveSlots, no_port, copy_at, scheduled as events_scheduled}
use Rattle.mp_simulation.specs.declared.bits.simulator.Simulator.{Simulator}
use Rattle.mp_simulation.specs.bits.Changes.{change_at}
use Rattle.mp_simulation.specs.bits.Scopes.{Scope, with_answers}
use Rattle.mp_simulation.specs.bits.Simulators.{next_slot, IsSound, AreOnlyDue}
use Rattle.mp_simulation.specs.bits.Units.{IsBefore, IsDuring, AreDue}
use Rattle.mp_simulation.specs.bits.Simulations.{copy_slot}
use Rattle.mp_simulation.proofs.lemmas.bits.FireLemmas.{due_once}
use Rattle.mp_simulation.proofs.lemmas.bits.ScheduleLemmas.{none_some}
use Rattle.mp_kernel.specs.declared.datapath.level_change.LevelChange.{LevelChange}
use Rattle.mp_kernel.specs.datapath.Levels.{toggled, changed}
use Rattle.mp_kernel.specs.datapath.LevelWheels.{scheduled, copied_from}
use Rattle.mp_kernel.specs.datapath.DataFiring.{HaveStepped, fired_by, changed_by}
use Rattle.mp_simulation.specs.declared.units.data_modules.DataModules.{DataModules}
use Rattle.mp_simulation.specs.declared.units.netlist_simulation.NetlistSimulation.{NetlistSimulation}
use Rattle.mp_simulation.specs.units.DataLevels.{is_data, late_level, number_of_change}
use Rattle.mp_simulation.specs.units.DataWheels.{data_slot, ahead_by, ahead, AreChangesBelow}
use Rattle.mp_simulation.specs.units.DataSeats.{AreDataModules}
use Rattle.mp_simulation.specs.units.NetlistSimulations.{IsSimulated, AreStimuli}
use Rattle.mp_simulation.specs.units.Units.{present_of, others_of}
use Rattle.mp_simulation.proofs.lemmas.bits.TurnLemmas.{turned_at}
use Rattle.mp_simulation.proofs.lemmas.units.LevelWheelLemmas.{HoldsOf, holds_scheduled}
use Rattle.mp_simulation.proofs.lemmas.units.AheadLemmas.{AreEntered}
use Rattle.mp_simulation.proofs.lemmas.units.LevelCopyLemmas.{copied_hold}
use Rattle.mp_simulation.proofs.lemmas.units.FiringLemmas.{events_none, events_data, events_driven, changes_none, changes_driven, changes_hold, changed_levels, stepped_next}
use Rattle.mp_simulation.proofs.lemmas.units.DuringLemmas.{with_data, with_wheel, wire_low, still_during}
use Rattle.mp_simulation.proofs.lemmas.units.PresentLemmas.{data_wire}
use Rattle.mp_simulation.proofs.lemmas.units.SeatLemmas.{seat_of, owns, placeless, far_driver}
use Rattle.mp_simulation.proofs.lemmas.units.EnteredLemmas.{entered}
use Rattle.mp_simulation.proofs.lemmas.units.LevelsNextLemmas.{levels_now}
use Rattle.mp_simulation.proofs.lemmas.units.HeardLemmas.{delays, enough, data_own, each, right, below, bits_heard, data_quiet, heard_each, due}

-- what is there when the modules have had their events, in mid, and those with data have answered: levels are those of numbers, and events is
-- the wheel of the simulator
pub record IsAnswered (s : NetlistSimulation) (set : List ℕ) (changes : List LevelChange) (time : ℕ) (mid : Simulator) (levels : List ℕ) (events : List (List ℕ)) : Type 0 where
  pub sound : IsSound mid
  pub applied : (n : Circuit) (scope : Scope) (t : ℕ) → IsCircuit n → time ≡ t + 1 → IsBefore n scope t s.bits.simulator →
      AreDue n scope t (next_slot s.bits.simulator ++ set) (others_of s changes) → IsDuring n scope t mid
  pub only : s.bits.simulator.due.items ≡ [] → AreOnlyDue s.bits.simulator.fanout ((next_slot s.bits.simulator ++ set) ++ others_of s changes) mid.due.items
  pub fanout : mid.fanout ≡ s.bits.simulator.fanout
  pub units : length mid.wheel ≡ length s.bits.simulator.wheel
  pub places : length mid.states.items ≡ length s.bits.simulator.states.items
  pub bit_waves : length mid.waves ≡ length s.bits.simulator.waves
  pub levels_are : levels ≡ changed (toggled (toggled s.wires.levels.items (next_slot s.bits.simulator ++ set)) (copy_slot s.bits.copies 0)) (present_of s changes)
  pub events_are : events ≡ events_scheduled mid.wheel (fired_by levels s.modules.places.items s.modules.modules.items mid.due.items)
  pub events_units : length events ≡ length mid.wheel

number_when : (next : List OutputPort) (y x : ℕ) (low : Bool) → nat_lt y (length next) ≡ low → (copy_at next y).wire ≡ Some x → y < length next
number_when next y x true is wire = grind (arith, nat_tests)
number_when next y x false is wire =
    let beyond : length next ≤ y = grind (arith, nat_tests) in
    absurd (none_some x (sym (ap (λ (port : OutputPort). port.wire) (get_or-eq_default next no_port beyond)) ∙ wire))

-- the wheel of a simulator is another, in which no wire without a wave is
pub sound_with : (s : Simulator) (wheel : List (List ℕ)) → IsSound s → length wheel ≡ length s.wheel →
    ((w k : ℕ) → length s.waves ≤ w → listed w (slice_index_or wheel k []) ≡ 0) → IsSound (with_wheel s wheel)
sound_with s wheel sound units none = record {
  units = sound.units;
  numbered = sound.numbered;
  events = sound.events;
  levels = sound.levels;
  outputs = sound.outputs;
  rows = sound.rows;
  placed = sound.placed;
  eventful = sound.eventful;
  some = let some = sound.some in omega arith;
  within = subst (λ k. All (HaveSlots k) s.outputs) (sym units) sound.within;
  driven = sound.driven;
  waved = none;
}

beyond : (w length_of : ℕ) → nat_lt w length_of ≡ true → length_of ≤ w → ⊥
beyond w length_of low past = let within : w < length_of = grind (arith, nat_tests) in omega arith

module _ (n : Circuit) (ok : IsCircuit n) (t : ℕ) (s : NetlistSimulation) (is : IsSimulated n t s) (set : List ℕ) (levels : List LevelChange) (sets : AreStimuli n set levels (t + 1))
    (mid : Simulator) (lv : List ℕ) (events : List (List ℕ)) (h : IsAnswered s set levels (t + 1) mid lv events) where
  abbrev count : ℕ
  count = length s.bits.simulator.fanout

  in_next : (x : ℕ) → x < length s.bits.simulator.fanout → x < length s.wires.next.items
  in_next x within = let same = is.wires.next in omega arith

  -- ---- levels

  pub level_is : (x : ℕ) → x < length s.bits.simulator.fanout → slice_index lv x ≡ late_level n (is.scope.source x) (t + 1)
  level_is x within =
      ap (λ (xs : List ℕ). slice_index xs x) h.levels_are
      ∙ levels_now n ok is.scope.source (length s.bits.simulator.fanout) t s.wires.levels.items (next_slot s.bits.simulator ++ set) (copy_slot s.bits.copies 0) (data_slot s.wires.wheel 0 ++ levels)
      is.wires.levels is.wires.places (bits_heard n ok t s is set levels sets) (λ y low. data_quiet n ok t s is set levels sets y) (λ y low. each n ok t s is set levels sets y (in_next y low))
      (right n ok t s is set levels sets) x within

  only : AreOnlyDue s.bits.simulator.fanout ((next_slot s.bits.simulator ++ set) ++ (copy_slot s.bits.copies 0 ++ map number_of_change (data_slot s.wires.wheel 0 ++ levels))) mid.due.items
  only = h.only is.running.simulator.due

  during : IsDuring n is.scope t mid
  during = h.applied n is.scope t ok refl is.running.simulator (due n ok t s is set levels sets)

  ports : (q : ℕ) → HasPorts s.bits.simulator.fanout q (is.scope.inputs q)
  ports = is.running.simulator.stands.layout.ports

  abbrev heard : List ℕ
  heard = (next_slot s.bits.simulator ++ set) ++ (copy_slot s.bits.copies 0 ++ map number_of_change (data_slot s.wires.wheel 0 ++ levels))

  pub positive : (m : ℕ) (r : ModuleRecord) (q : ℕ) → module_at n m ≡ Some r → 0 < delay_of r q
  positive m r q at = subst (λ o. 0 < delay_in o q) at (delay_positive n ok m q)

  -- ---- modules of width 1

  room : (w q : ℕ) (m : ModuleId) (r : ModuleRecord) → driver n w ≡ Port m q → module_at n m.0 ≡ Some r → (0 < delay_of r q) × (delay_of r q ≤ length mid.wheel)
  room w q m r drives at =
      let far = is.running.simulator.stands.room w q m r drives at in
      let known = is.known m.0 r at in
      let same = h.units in
      let low : delay_of r q ≤ length mid.wheel = omega arith in
      (positive m.0 r q at, low)

  -- a wire without a wave isn't in the wheel
  past_when : (w k : ℕ) (low : Bool) → nat_lt k (length mid.wheel) ≡ low → length mid.waves ≤ w → listed w (slice_index_or events k []) ≡ 0
  past_when w k true low past =
      let within : k < length mid.wheel = grind (arith, nat_tests) in
      let none =
      events_none n ok is.scope count (length s.bits.simulator.states.items) (length s.bits.simulator.wheel) (length s.wires.wheel) t s.modules is.modules lv level_is
      s.bits.simulator.fanout ports heard mid.due.items (heard_each n ok t s is set levels sets) only (due_once mid h.sound) k w
      (λ q j i at drv. beyond w (length n.wires) (wire_low n ok q i w drv) (let a = h.bit_waves in let b = is.waves in omega arith)) in
      ap (λ (xs : List (List ℕ)). listed w (slice_index_or xs k [])) h.events_are
      ∙ schedules_each mid.wheel (fired_by lv s.modules.places.items s.modules.modules.items mid.due.items) k w within
      ∙ ap (λ c. listed w (slice_index_or mid.wheel k []) + c) none
      ∙ (let old = h.sound.waved w k past in omega arith)
  past_when w k false low past =
      let outside : length mid.wheel ≤ k = grind (arith, nat_tests) in
      ap (λ xs. listed w xs) (get_or-eq_default events [] (let same = h.events_units in omega arith))

  pub sound_events : IsSound (with_wheel mid events)
  sound_events = sound_with mid events h.sound h.events_units (λ w k past. past_when w k (nat_lt k (length mid.wheel)) refl past)

  pub answered : IsDuring n (with_data is.scope (t + 2)) t (with_wheel mid events)
  answered =
      still_during n ok is.scope t mid during (owns n ok t s is) is.known room (fired_by lv s.modules.places.items s.modules.modules.items mid.due.items)
      (λ k w never. events_none n ok is.scope count (length s.bits.simulator.states.items) (length s.bits.simulator.wheel) (length s.wires.wheel) t s.modules is.modules lv level_is
      s.bits.simulator.fanout ports heard mid.due.items (heard_each n ok t s is set levels sets) only (due_once mid h.sound) k w
      (λ q j i at drv. never q i (is.modules.seats q j at).inactive drv))
      (λ k w wide. events_data n ok is.scope count (length s.bits.simulator.states.items) (length s.bits.simulator.wheel) (length s.wires.wheel) t s.modules is.modules lv level_is
      s.bits.simulator.fanout ports heard mid.due.items (heard_each n ok t s is set levels sets) only (due_once mid h.sound) k w wide)
      (λ k w q m r drives at place narrow some.
      let j = seat_of n ok t s is m.0 r at place in
      events_driven n ok is.scope count (length s.bits.simulator.states.items) (length s.bits.simulator.wheel) (length s.wires.wheel) t s.modules is.modules lv level_is
      s.bits.simulator.fanout ports heard mid.due.items (heard_each n ok t s is set levels sets) only (due_once mid h.sound) k w q j.0 m r drives at j.1 narrow some)
      events h.events_are h.events_units

  -- ---- the level wheel

  far_when : (x : ℕ) (o : Option ℕ) → is.data_before x ≡ o → x < length s.wires.next.items → is_data n (is.scope.source x).0 ≡ true → ahead_by n s.wires.next.items x o ≤ length s.wires.wheel
  far_when x (Some y) after within wide =
      let low = number_when s.wires.next.items y x (nat_lt y (length s.wires.next.items)) refl (is.wires.chained.first x y after) in
      (is.wires.within y no_port low).room
  far_when x None first within wide =
      let own = data_own n ok t s is set levels sets x within wide first in
      far_driver n ok t s is x (driver n x) refl (sym (ap (λ (r : ℕ × ℕ). is_data n r.0) own) ∙ wide)

  pub far : (x : ℕ) → x < length s.wires.next.items → is_data n (is.scope.source x).0 ≡ true → ahead n is.data_before s.wires.next.items x ≤ length s.wires.wheel
  far x within wide = far_when x (is.data_before x) refl within wide

  abbrev entries : List (ℕ × LevelChange)
  entries = changed_by lv s.modules.places.items s.modules.modules.items mid.due.items

  pub are_entered : AreEntered n is.scope.source is.data_before s.wires.next.items t
      (copied_from s.wires.next.items (data_slot s.wires.wheel 0 ++ levels) ++ changed_by lv s.modules.places.items s.modules.modules.items mid.due.items)
  are_entered =
      entered n is.scope.source is.data_before s.wires.next.items t (data_slot s.wires.wheel 0 ++ levels) is.wires.chained (each n ok t s is set levels sets) (right n ok t s is set levels sets)
      (data_own n ok t s is set levels sets) is.split.wires (delays n ok t s is set levels sets)
      (changed_by lv s.modules.places.items s.modules.modules.items mid.due.items)
      (λ k x q m drives wide.
      let drv = finds_only_ports n x q m drives in
      let j = seat_of n ok t s is m.0 drv.part drv.stands (placeless n ok t s is x q m drives wide) in
      changes_driven n ok is.scope count (length s.bits.simulator.states.items) (length s.bits.simulator.wheel) (length s.wires.wheel) t s.modules is.modules lv level_is
      s.bits.simulator.fanout ports heard mid.due.items (heard_each n ok t s is set levels sets) only (due_once mid h.sound) k x q j.0 m drv.part drives drv.stands j.1 wide (positive m.0 drv.part q drv.stands)
      ∙ sym (ap (λ o. bit (change_at n x (t + 1 + delay_in o q) && (delay_in o q - 1 == k))) drv.stands))
      (λ k x never. changes_none n ok is.scope count (length s.bits.simulator.states.items) (length s.bits.simulator.wheel) (length s.wires.wheel) t s.modules is.modules lv level_is
      s.bits.simulator.fanout ports heard mid.due.items (heard_each n ok t s is set levels sets) only (due_once mid h.sound) k x never)
      (changed_levels n ok is.scope count (length s.bits.simulator.states.items) (length s.bits.simulator.wheel) (length s.wires.wheel) t s.modules is.modules lv level_is
      s.bits.simulator.fanout ports heard mid.due.items (heard_each n ok t s is set levels sets) only (due_once mid h.sound) (λ w wide. (is.split.wires w wide).0) (λ q r at. positive q r 0 at))

  abbrev Low : ℕ → LevelChange → Type 0
  Low k c = c.number < length s.bits.simulator.fanout

  pub entries_low : AreChangesBelow (length s.bits.simulator.fanout) (scheduled (drop 1 s.wires.wheel ++ [] ∷ [])
      (copied_from s.wires.next.items (data_slot s.wires.wheel 0 ++ levels) ++ changed_by lv s.modules.places.items s.modules.modules.items mid.due.items))
  entries_low =
      holds_scheduled Low (drop 1 s.wires.wheel ++ [] ∷ [])
      (copied_from s.wires.next.items (data_slot s.wires.wheel 0 ++ levels) ++ changed_by lv s.modules.places.items s.modules.modules.items mid.due.items)
      (λ k. subst (λ (cs : List LevelChange). All (Low k) cs) (sym (turned_at s.wires.wheel k)) (is.wires.numbered (suc k)))
      (All-append (HoldsOf Low) (copied_from s.wires.next.items (data_slot s.wires.wheel 0 ++ levels))
      (changed_by lv s.modules.places.items s.modules.modules.items mid.due.items)
      (copied_hold n is.scope.source is.data_before s.wires.next.items t (data_slot s.wires.wheel 0 ++ levels) is.wires.chained Low (λ (c : LevelChange). c.number < length s.bits.simulator.fanout)
      (λ c x wire low. is.wires.below c.number no_port (in_next c.number low) x wire) (below n ok t s is set levels sets))
      (changes_hold n ok is.scope count (length s.bits.simulator.states.items) (length s.bits.simulator.wheel) (length s.wires.wheel) t s.modules is.modules lv level_is
      s.bits.simulator.fanout ports heard mid.due.items (heard_each n ok t s is set levels sets) only (due_once mid h.sound) Low
      (λ q w r stands drv wide. let wire = data_wire n w wide in let more = enough n ok t s is set levels sets in omega arith)))

  pub modules_stepped : (new : DataModules) → new.places.items ≡ s.modules.places.items → HaveStepped lv s.modules.places.items mid.due.items s.modules.modules.items new.modules.items →
      AreDataModules n (with_answers (with_data is.scope (t + 2)) (t + 2)) (length s.bits.simulator.fanout) (length s.bits.simulator.states.items) (length s.bits.simulator.wheel) (length s.wires.wheel) (t + 1) new
  modules_stepped new kept stepped =
      stepped_next n ok is.scope count (length s.bits.simulator.states.items) (length s.bits.simulator.wheel) (length s.wires.wheel) t s.modules is.modules lv level_is
      s.bits.simulator.fanout ports heard mid.due.items (heard_each n ok t s is set levels sets) only (due_once mid h.sound)
      (with_answers (with_data is.scope (t + 2)) (t + 2)) new refl refl refl kept stepped
