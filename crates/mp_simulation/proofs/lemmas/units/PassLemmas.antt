-- A simulation that can pass a unit meets what each step of it asks.
use Rattle.std.proofs.Common.{◌≡◌, ℕ, ◌+◌, ◌<◌, ◌≤◌, drop, List, [], ◌∷◌, ◌++◌, All, length, sym, ap, ◌∙◌, arith, subst}
use Rattle.mp_netlist.specs.Circuit.{Circuit, IsCircuit}
use Rattle.mp_kernel.specs.declared.events.output_port.OutputPort.{OutputPort}
use Rattle.mp_simulation.specs.declared.bits.simulator.Simulator.{Simulator}
use Rattle.mp_simulation.specs.bits.Simulators.{next_slot, IsSound, CanApply}
use Rattle.mp_simulation.specs.bits.Simulations.{copy_slot}
use Rattle.mp_simulation.proofs.lemmas.bits.ApplyLemmas.{all_waved, all_rowed}
use Rattle.mp_simulation.proofs.lemmas.bits.FireLemmas.{due_placed}
use Rattle.mp_simulation.proofs.lemmas.bits.SimulationLemmas.{all_numbers}
use Rattle.mp_kernel.specs.declared.datapath.level_change.LevelChange.{LevelChange}
use Rattle.mp_kernel.specs.datapath.Levels.{toggled, changed}
use Rattle.mp_kernel.specs.datapath.LevelWheels.{scheduled, copied_from}
use Rattle.mp_kernel.specs.datapath.DataModules.{CanFire}
use Rattle.mp_simulation.specs.declared.units.netlist_simulation.NetlistSimulation.{NetlistSimulation}
use Rattle.mp_simulation.specs.units.DataLevels.{changes_of}
use Rattle.mp_simulation.specs.units.DataWaves.{building_at}
use Rattle.mp_simulation.specs.units.NetlistSimulations.{IsSimulated, AreStimuli, CanPass}
use Rattle.mp_simulation.specs.units.Units.{present_of, others_of}
use Rattle.mp_simulation.proofs.lemmas.units.DuringLemmas.{with_wheel}
use Rattle.mp_simulation.proofs.lemmas.units.HeardLemmas.{below, few, waved, fit}
use Rattle.mp_simulation.proofs.lemmas.units.AnsweredLemmas.{IsAnswered, sound_events}
use Rattle.mp_simulation.proofs.lemmas.units.UnitLemmas.{IsPassed, passed}

module _ (s : NetlistSimulation) (set : List ℕ) (levels : List LevelChange) (time : ℕ) (f : CanPass set levels time s) where
  sets : AreStimuli f.n set levels (f.t + 1)
  sets = subst (λ u. AreStimuli f.n set levels u) f.now f.stimuli

  pub can_begin : (others : List ℕ) → others ≡ others_of s levels → CanApply s.bits.simulator set others time
  can_begin others same =
      subst (λ xs. CanApply s.bits.simulator set xs time) (sym same)
      (subst (λ u. CanApply s.bits.simulator set (others_of s levels) u) (sym f.now) (fit f.n f.ok f.t s f.is set levels sets))

  many : length s.wires.levels.items ≡ length s.bits.simulator.fanout
  many = f.is.wires.places

  pub wires_in : (k : ℕ) (xs : List ℕ) → k ≡ length s.bits.simulator.fanout → xs ≡ next_slot s.bits.simulator ++ set → All (λ x. x < k) xs
  wires_in k xs all_of same =
      subst (λ (ys : List ℕ). All (λ x. x < k) ys) (sym same)
      (subst (λ j. All (λ x. x < j) (next_slot s.bits.simulator ++ set)) (sym all_of)
      (all_rowed s.bits.simulator (next_slot s.bits.simulator ++ set) f.is.sound.simulator
      (all_waved s.bits.simulator set f.is.sound.simulator (waved f.n f.ok f.t s f.is set levels sets))))

  pub late_in : (k : ℕ) (xs : List ℕ) → k ≡ length s.bits.simulator.fanout → xs ≡ copy_slot s.bits.copies 0 → All (λ x. x < k) xs
  late_in k xs all_of same =
      subst (λ (ys : List ℕ). All (λ x. x < k) ys) (sym same)
      (subst (λ j. All (λ x. x < j) (copy_slot s.bits.copies 0)) (sym all_of) (all_numbers (length s.bits.simulator.fanout) s.bits.copies f.is.sound.copies))

  pub changes_in : (k : ℕ) (cs : List LevelChange) → k ≡ length s.bits.simulator.fanout → cs ≡ present_of s levels → All (λ (c : LevelChange). c.number < k) cs
  changes_in k cs all_of same =
      subst (λ (ds : List LevelChange). All (λ (c : LevelChange). c.number < k) ds) (sym same)
      (subst (λ j. All (λ (c : LevelChange). c.number < j) (present_of s levels)) (sym all_of) (below f.n f.ok f.t s f.is set levels sets))

  pub once : (cs : List LevelChange) → cs ≡ present_of s levels → (w : ℕ) → changes_of w cs ≤ 1
  once cs same w = subst (λ (ds : List LevelChange). changes_of w ds ≤ 1) (sym same) (few f.n f.ok f.t s f.is set levels sets w)

  pub over : (w : ℕ) → (building_at s.wires.waves.items w).next ≤ time
  over w = let low = f.is.wires.over w in let now = f.now in omega arith

  pub places_in : (mid : Simulator) → IsSound mid → length mid.states.items ≡ length s.bits.simulator.states.items → All (λ q. q < length s.modules.places.items) mid.due.items
  places_in mid sound places =
      let long = f.is.modules.long in
      subst (λ k. All (λ q. q < k) mid.due.items) (places ∙ sym long) (due_placed mid sound)

  pub can_fire : (a b c : ℕ) → a ≡ length s.bits.simulator.fanout → b ≡ length s.bits.simulator.wheel → c ≡ length s.wires.wheel → All (CanFire a b c) s.modules.modules.items
  can_fire a b c one two three =
      subst (λ k. All (CanFire k b c) s.modules.modules.items) (sym one)
      (subst (λ k. All (CanFire (length s.bits.simulator.fanout) k c) s.modules.modules.items) (sym two)
      (subst (λ k. All (CanFire (length s.bits.simulator.fanout) (length s.bits.simulator.wheel) k) s.modules.modules.items) (sym three) f.is.modules.fit))

  pub still_sound : (mid : Simulator) (lv : List ℕ) (events : List (List ℕ)) → IsAnswered s set levels time mid lv events → IsSound (with_wheel mid events)
  still_sound mid lv events h =
      sound_events f.n f.ok f.t s f.is set levels sets mid lv events (subst (λ u. IsAnswered s set levels u mid lv events) f.now h)

pub unit_passed : (n : Circuit) → IsCircuit n → (t : ℕ) (s new : NetlistSimulation) (set : List ℕ) (levels : List LevelChange) (time : ℕ) → time ≡ t + 1 → IsSimulated n t s →
    AreStimuli n set levels time → (mid : Simulator) (lv : List ℕ) (events : List (List ℕ)) → IsAnswered s set levels time mid lv events → IsPassed s new set levels time mid lv events →
    IsSimulated n (t + 1) new
unit_passed n ok t s new set levels time now is sets mid lv events h p =
    passed n ok t s is set levels (subst (λ u. AreStimuli n set levels u) now sets) mid lv events (subst (λ u. IsAnswered s set levels u mid lv events) now h)
    new (subst (λ u. IsPassed s new set levels u mid lv events) now p)

-- the levels of numbers, with what they come from told by other names
pub levels_as : (s : NetlistSimulation) (set : List ℕ) (levels : List LevelChange) (new first wires late : List ℕ) (present : List LevelChange) → first ≡ s.wires.levels.items →
    wires ≡ next_slot s.bits.simulator ++ set → late ≡ copy_slot s.bits.copies 0 → present ≡ present_of s levels → new ≡ changed (toggled (toggled first wires) late) present →
    new ≡ changed (toggled (toggled s.wires.levels.items (next_slot s.bits.simulator ++ set)) (copy_slot s.bits.copies 0)) (present_of s levels)
levels_as s set levels new first wires late present one two three four is =
    is ∙ ap (λ (xs : List ℕ). changed (toggled (toggled xs wires) late) present) one
    ∙ ap (λ (xs : List ℕ). changed (toggled (toggled s.wires.levels.items xs) late) present) two
    ∙ ap (λ (xs : List ℕ). changed (toggled (toggled s.wires.levels.items (next_slot s.bits.simulator ++ set)) xs) present) three
    ∙ ap (λ (cs : List LevelChange). changed (toggled (toggled s.wires.levels.items (next_slot s.bits.simulator ++ set)) (copy_slot s.bits.copies 0)) cs) four

-- and the level wheel after the next copies were put there
pub copied_as : (s : NetlistSimulation) (levels : List LevelChange) (new turned : List (List LevelChange)) (next : List OutputPort) (present : List LevelChange) →
    turned ≡ drop 1 s.wires.wheel ++ [] ∷ [] → next ≡ s.wires.next.items → present ≡ present_of s levels → new ≡ scheduled turned (copied_from next present) →
    new ≡ scheduled (drop 1 s.wires.wheel ++ [] ∷ []) (copied_from s.wires.next.items (present_of s levels))
copied_as s levels new turned next present one two three is =
    is ∙ ap (λ (slots : List (List LevelChange)). scheduled slots (copied_from next present)) one
    ∙ ap (λ (xs : List OutputPort). scheduled (drop 1 s.wires.wheel ++ [] ∷ []) (copied_from xs present)) two
    ∙ ap (λ (cs : List LevelChange). scheduled (drop 1 s.wires.wheel ++ [] ∷ []) (copied_from s.wires.next.items cs)) three
