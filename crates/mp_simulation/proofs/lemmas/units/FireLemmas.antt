-- When what changes in a unit has been applied, the modules that are due can fire, and then the unit is over.
use Rattle.std.proofs.Common.{◌≡◌, ℕ, ◌+◌, ◌<◌, drop, List, [], ◌∷◌, ◌++◌, Option, All, length, refl, sym, ap, ◌∙◌, subst}
use Rattle.mp_netlist.specs.Circuit.{Circuit, IsCircuit}
use Rattle.mp_kernel.specs.events.Firing.{scheduled as events_scheduled}
use Rattle.mp_simulation.specs.bits.Scopes.{Scope, with_answers}
use Rattle.mp_simulation.specs.bits.Simulators.{next_slot, IsSound}
use Rattle.mp_simulation.specs.bits.Units.{IsBefore, IsDuring}
use Rattle.mp_simulation.specs.declared.bits.delayed_copies.DelayedCopies.{DelayedCopies}
use Rattle.mp_simulation.specs.bits.Copies.{HaveCopies, AreListedBelow}
use Rattle.mp_simulation.specs.bits.Simulations.{copy_slot}
use Rattle.mp_kernel.specs.declared.datapath.level_change.LevelChange.{LevelChange}
use Rattle.mp_kernel.specs.declared.datapath.data_module.DataModule.{DataModule}
use Rattle.mp_kernel.specs.datapath.Levels.{toggled}
use Rattle.mp_kernel.specs.datapath.LevelWheels.{scheduled, copied_from}
use Rattle.mp_kernel.specs.datapath.DataModules.{CanFire}
use Rattle.mp_kernel.specs.datapath.DataFiring.{ArePlaced, HaveStepped, fired_by, changed_by}
use Rattle.mp_simulation.specs.declared.units.data_modules.DataModules.{DataModules}
use Rattle.mp_simulation.specs.declared.units.netlist_simulation.NetlistSimulation.{NetlistSimulation}
use Rattle.mp_simulation.specs.units.NetlistSimulations.{IsSimulated, CanPass}
use Rattle.mp_simulation.specs.units.Units.{present_of, IsApplied}
use Rattle.mp_simulation.proofs.lemmas.units.DuringLemmas.{with_wheel}
use Rattle.mp_simulation.proofs.lemmas.units.LevelLemmas.{toggled_length, changed_length}
use Rattle.mp_simulation.proofs.lemmas.units.AnsweredLemmas.{IsAnswered}
use Rattle.mp_simulation.proofs.lemmas.units.UnitLemmas.{IsPassed, levels_both}
use Rattle.mp_simulation.proofs.lemmas.units.PassLemmas.{places_in, can_fire, still_sound, unit_passed}

-- what modules with data schedule, by the names of a simulation
pub events_as : (now : NetlistSimulation) (events : List (List ℕ)) (levels : List ℕ) (places : List (Option ℕ)) (due : List ℕ) → levels ≡ now.wires.levels.items →
    places ≡ now.modules.places.items → due ≡ now.bits.simulator.due.items → events ≡ events_scheduled now.bits.simulator.wheel (fired_by levels places now.modules.modules.items due) →
    events ≡ events_scheduled now.bits.simulator.wheel (fired_by now.wires.levels.items now.modules.places.items now.modules.modules.items now.bits.simulator.due.items)
events_as now events levels places due one two three is =
    is ∙ ap (λ (xs : List ℕ). events_scheduled now.bits.simulator.wheel (fired_by xs places now.modules.modules.items due)) one
    ∙ ap (λ (xs : List (Option ℕ)). events_scheduled now.bits.simulator.wheel (fired_by now.wires.levels.items xs now.modules.modules.items due)) two
    ∙ ap (λ (xs : List ℕ). events_scheduled now.bits.simulator.wheel (fired_by now.wires.levels.items now.modules.places.items now.modules.modules.items xs)) three

pub changes_as : (now : NetlistSimulation) (changes : List (List LevelChange)) (levels : List ℕ) (places : List (Option ℕ)) (due : List ℕ) → levels ≡ now.wires.levels.items →
    places ≡ now.modules.places.items → due ≡ now.bits.simulator.due.items → changes ≡ scheduled now.wires.wheel (changed_by levels places now.modules.modules.items due) →
    changes ≡ scheduled now.wires.wheel (changed_by now.wires.levels.items now.modules.places.items now.modules.modules.items now.bits.simulator.due.items)
changes_as now changes levels places due one two three is =
    is ∙ ap (λ (xs : List ℕ). scheduled now.wires.wheel (changed_by xs places now.modules.modules.items due)) one
    ∙ ap (λ (xs : List (Option ℕ)). scheduled now.wires.wheel (changed_by now.wires.levels.items xs now.modules.modules.items due)) two
    ∙ ap (λ (xs : List ℕ). scheduled now.wires.wheel (changed_by now.wires.levels.items now.modules.places.items now.modules.modules.items xs)) three

pub stepped_as : (now : NetlistSimulation) (new : List DataModule) (levels : List ℕ) (places : List (Option ℕ)) (due : List ℕ) → levels ≡ now.wires.levels.items →
    places ≡ now.modules.places.items → due ≡ now.bits.simulator.due.items → HaveStepped levels places due now.modules.modules.items new →
    HaveStepped now.wires.levels.items now.modules.places.items now.bits.simulator.due.items now.modules.modules.items new
stepped_as now new levels places due one two three is =
    subst (λ (xs : List ℕ). HaveStepped now.wires.levels.items now.modules.places.items xs now.modules.modules.items new) three
    (subst (λ (xs : List (Option ℕ)). HaveStepped now.wires.levels.items xs due now.modules.modules.items new) two
    (subst (λ (xs : List ℕ). HaveStepped xs places due now.modules.modules.items new) one is))

-- what firing makes of a simulation
pub record IsFired (now new : NetlistSimulation) (events : List (List ℕ)) : Type 0 where
  pub entered : events ≡ events_scheduled now.bits.simulator.wheel (fired_by now.wires.levels.items now.modules.places.items now.modules.modules.items now.bits.simulator.due.items)
  pub entered_units : length events ≡ length now.bits.simulator.wheel
  pub changes : new.wires.wheel ≡ scheduled now.wires.wheel (changed_by now.wires.levels.items now.modules.places.items now.modules.modules.items now.bits.simulator.due.items)
  pub changes_units : length new.wires.wheel ≡ length now.wires.wheel
  pub stepped : HaveStepped now.wires.levels.items now.modules.places.items now.bits.simulator.due.items now.modules.modules.items new.modules.modules.items
  pub places : new.modules.places.items ≡ now.modules.places.items
  pub copies : new.bits.copies ≡ now.bits.copies
  pub levels : new.wires.levels.items ≡ now.wires.levels.items
  pub waves : new.wires.waves.items ≡ now.wires.waves.items
  pub next : new.wires.next.items ≡ now.wires.next.items
  pub fired : (n : Circuit) (scope : Scope) (t : ℕ) → IsCircuit n → IsDuring n scope t (with_wheel now.bits.simulator events) → IsBefore n (with_answers scope (t + 2)) (t + 1) new.bits.simulator
  pub sound : IsSound new.bits.simulator
  pub fanout : new.bits.simulator.fanout ≡ now.bits.simulator.fanout
  pub bit_waves : new.bits.simulator.waves ≡ now.bits.simulator.waves
  pub units : length new.bits.simulator.wheel ≡ length events
  pub seats : length new.bits.simulator.states.items ≡ length now.bits.simulator.states.items

module _ (n : Circuit) (ok : IsCircuit n) (t : ℕ) (now : NetlistSimulation) (a : IsApplied n t now) where
  can : CanPass a.set a.changes (t + 1) a.before
  can = record { n = n; ok = ok; t = t; now = refl; is = a.is; stimuli = a.stimuli }

  pub due_in : All (λ q. q < length now.modules.places.items) now.bits.simulator.due.items
  due_in =
      subst (λ (m : DataModules). All (λ q. q < length m.places.items) now.bits.simulator.due.items) (sym a.applied.modules)
      (places_in a.before a.set a.changes (t + 1) can now.bits.simulator a.applied.toggled.sound a.applied.toggled.places)

  pub placed : ArePlaced now.modules.places.items (length now.modules.modules.items)
  placed = subst (λ (m : DataModules). ArePlaced m.places.items (length m.modules.items)) (sym a.applied.modules) a.is.modules.placed

  many : length now.wires.levels.items ≡ length a.before.bits.simulator.fanout
  many =
      ap (length {A = ℕ}) a.applied.turned.levels
      ∙ changed_length (toggled (toggled a.before.wires.levels.items (next_slot a.before.bits.simulator ++ a.set)) (copy_slot a.before.bits.copies 0)) (present_of a.before a.changes)
      ∙ toggled_length (toggled a.before.wires.levels.items (next_slot a.before.bits.simulator ++ a.set)) (copy_slot a.before.bits.copies 0)
      ∙ toggled_length a.before.wires.levels.items (next_slot a.before.bits.simulator ++ a.set)
      ∙ a.is.wires.places

  pub fit : All (CanFire (length now.wires.levels.items) (length now.bits.simulator.wheel) (length now.wires.wheel)) now.modules.modules.items
  fit =
      subst (λ (m : DataModules). All (CanFire (length now.wires.levels.items) (length now.bits.simulator.wheel) (length now.wires.wheel)) m.modules.items) (sym a.applied.modules)
      (can_fire a.before a.set a.changes (t + 1) can (length now.wires.levels.items) (length now.bits.simulator.wheel) (length now.wires.wheel) many a.applied.toggled.units a.applied.turned.units)

  answered : (events : List (List ℕ)) →
      events ≡ events_scheduled now.bits.simulator.wheel (fired_by now.wires.levels.items now.modules.places.items now.modules.modules.items now.bits.simulator.due.items) →
      length events ≡ length now.bits.simulator.wheel → IsAnswered a.before a.set a.changes (t + 1) now.bits.simulator now.wires.levels.items events
  answered events entered units = record {
    sound = a.applied.toggled.sound;
    applied = a.applied.toggled.applied;
    only = a.applied.toggled.only;
    fanout = a.applied.toggled.fanout;
    units = a.applied.toggled.units;
    places = a.applied.toggled.places;
    bit_waves = a.applied.toggled.waves;
    levels_are = a.applied.turned.levels;
    events_are =
        entered
        ∙ ap (λ (m : DataModules). events_scheduled now.bits.simulator.wheel (fired_by now.wires.levels.items m.places.items m.modules.items now.bits.simulator.due.items)) a.applied.modules;
    events_units = units;
  }

  pub sound : (events : List (List ℕ)) →
      events ≡ events_scheduled now.bits.simulator.wheel (fired_by now.wires.levels.items now.modules.places.items now.modules.modules.items now.bits.simulator.due.items) →
      length events ≡ length now.bits.simulator.wheel → IsSound (with_wheel now.bits.simulator events)
  sound events entered units =
      still_sound a.before a.set a.changes (t + 1) can now.bits.simulator now.wires.levels.items events (answered events entered units)

  passed : (new : NetlistSimulation) (events : List (List ℕ)) → IsFired now new events → IsPassed a.before new a.set a.changes (t + 1) now.bits.simulator now.wires.levels.items events
  passed new events f =
      let d = a.applied.advanced in
      let w = a.applied.turned in
      record {
        copies_next = ap (λ (c : DelayedCopies). c.next.items) f.copies ∙ d.next;
        copies_units = ap (λ (c : DelayedCopies). length c.wheel) f.copies ∙ d.units;
        copies_low = λ bound below low. subst (λ (c : DelayedCopies). AreListedBelow bound c.wheel) (sym f.copies) (d.low bound below low);
        copies = λ n2 source before t2 chained later originals.
            subst (λ (c : DelayedCopies). HaveCopies n2 source before a.before.bits.copies.next.items (t2 + 1) c.wheel) (sym f.copies) (d.copies n2 source before t2 chained later originals);
        levels_same = f.levels;
        waves = f.waves ∙ w.waves;
        next = f.next ∙ w.next;
        wheel =
            f.changes
            ∙ ap (λ (m : DataModules). scheduled now.wires.wheel (changed_by now.wires.levels.items m.places.items m.modules.items now.bits.simulator.due.items)) a.applied.modules
            ∙ ap (λ (slots : List (List LevelChange)). scheduled slots (changed_by now.wires.levels.items a.before.modules.places.items a.before.modules.modules.items now.bits.simulator.due.items)) w.wheel
            ∙ levels_both (drop 1 a.before.wires.wheel ++ [] ∷ []) (copied_from a.before.wires.next.items (present_of a.before a.changes))
            (changed_by now.wires.levels.items a.before.modules.places.items a.before.modules.modules.items now.bits.simulator.due.items);
        wheel_units = f.changes_units ∙ w.units;
        kept = f.places ∙ ap (λ (m : DataModules). m.places.items) a.applied.modules;
        stepped = subst (λ (m : DataModules). HaveStepped now.wires.levels.items m.places.items now.bits.simulator.due.items m.modules.items new.modules.modules.items) a.applied.modules f.stepped;
        fired = f.fired;
        sound_new = f.sound;
        fanout_new = f.fanout;
        waves_new = f.bit_waves;
        units_new = f.units;
        places_new = f.seats;
      }

  pub fired : (new : NetlistSimulation) (events : List (List ℕ)) → IsFired now new events → IsSimulated n (t + 1) new
  fired new events f =
      unit_passed n ok t a.before new a.set a.changes (t + 1) refl a.is a.stimuli now.bits.simulator now.wires.levels.items events (answered events f.entered f.entered_units) (passed new events f)
