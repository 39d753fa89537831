-- A simulation in which nothing is known to change.
use Rattle.std.proofs.Common.{◌≡◌, ℕ, ◌+◌, List, [], Some, refl, sym, ap, subst}
use Rattle.mp_records.specs.declared.module_record.ModuleRecord.{ModuleRecord}
use Rattle.mp_netlist.specs.Circuit.{Circuit, IsCircuit, module_at}
use Rattle.mp_model.specs.Waves.{state}
use Rattle.mp_kernel.specs.events.Adding.{listed}
use Rattle.mp_kernel.specs.events.Firing.{scheduled as events_scheduled}
use Rattle.mp_kernel.proofs.lemmas.events.EmptyLemmas.{empty_turned, empty_next}
use Rattle.mp_simulation.proofs.lemmas.bits.FiredLemmas.{fired as bits_fired}
use Rattle.mp_simulation.proofs.lemmas.bits.QuietLemmas.{none_fired}
use Rattle.mp_simulation.specs.bits.Simulators.{IsSound}
use Rattle.mp_kernel.specs.datapath.LevelWheels.{scheduled}
use Rattle.mp_kernel.specs.datapath.DataFiring.{HaveStepped, fired_by, changed_by}
use Rattle.mp_simulation.specs.declared.units.netlist_simulation.NetlistSimulation.{NetlistSimulation}
use Rattle.mp_simulation.specs.units.NetlistSimulations.{IsSimulated, AreStimuli, IsAtRest}
use Rattle.mp_simulation.specs.units.Units.{IsApplied}
use Rattle.mp_simulation.proofs.lemmas.units.FireLemmas.{IsFired, fired}
use Rattle.mp_simulation.proofs.lemmas.units.QuietLemmas.{quiet_unit}
use Rattle.mp_simulation.proofs.lemmas.units.RestLemmas.{stays}

none_stepped : (levels : List ℕ) (s : NetlistSimulation) → HaveStepped levels s.modules.places.items [] s.modules.modules.items s.modules.modules.items
none_stepped levels s = record {
  placed = refl;
  fired = λ q k at. refl;
  others = λ k none. refl;
  kept = λ k. record { part = refl; inputs = refl; ports = refl };
}

-- no module is due, so none fires
none_fires : (s : NetlistSimulation) → s.bits.simulator.due.items ≡ [] → IsSound s.bits.simulator → IsFired s s s.bits.simulator.wheel
none_fires s due sound = record {
  entered = sym (ap (λ (xs : List ℕ). events_scheduled s.bits.simulator.wheel (fired_by s.wires.levels.items s.modules.places.items s.modules.modules.items xs)) due);
  entered_units = refl;
  changes = sym (ap (λ (xs : List ℕ). scheduled s.wires.wheel (changed_by s.wires.levels.items s.modules.places.items s.modules.modules.items xs)) due);
  changes_units = refl;
  stepped = subst (λ (xs : List ℕ). HaveStepped s.wires.levels.items s.modules.places.items xs s.modules.modules.items s.modules.modules.items) (sym due) (none_stepped s.wires.levels.items s);
  places = refl;
  copies = refl;
  levels = refl;
  waves = refl;
  next = refl;
  fired = λ n scope t ok during. bits_fired s.bits.simulator s.bits.simulator sound (none_fired s.bits.simulator due) n ok scope t during;
  sound = sound;
  fanout = refl;
  bit_waves = refl;
  units = refl;
  seats = refl;
}

-- where what changes in a unit has been applied, and no module is due, the unit is over
pub none_due : (n : Circuit) → IsCircuit n → (t : ℕ) (s : NetlistSimulation) → IsApplied n t s → s.bits.simulator.due.items ≡ [] → IsSimulated n (t + 1) s
none_due n ok t s applied due = fired n ok t s applied s s.bits.simulator.wheel (none_fires s due applied.applied.toggled.sound)

module _ (n : Circuit) (ok : IsCircuit n) (t : ℕ) (s : NetlistSimulation) (rest : IsAtRest s) (is : IsSimulated n t s) (sets : AreStimuli n [] [] (t + 1)) where
  -- what changes in a unit in which nothing is set has been applied before it
  applied_at_rest : IsApplied n t s
  applied_at_rest =
      let events = s.bits.simulator.wheel in
      let copies = s.bits.copies.wheel in
      let changes = s.wires.wheel in
      record {
        before = s;
        is = is;
        set = [];
        changes = [];
        stimuli = sets;
        applied = quiet_unit s is.sound (empty_next events rest.bits.wires) (empty_next copies rest.bits.copies) (empty_next changes rest.changes) (t + 1)
            events (sym (empty_turned events is.sound.simulator.some rest.bits.wires))
            copies (sym (empty_turned copies is.sound.copies.some rest.bits.copies)) changes (sym (empty_turned changes is.wires.some rest.changes)) is.wires.some;
      }

  -- so it is over as soon as the one before
  pub rests_on : IsSimulated n (t + 1) s
  rests_on = none_due n ok t s applied_at_rest is.running.simulator.due

  -- and each module stays in its state
  pub state_rests : (m : ℕ) (r : ModuleRecord) → module_at n m ≡ Some r → state n m (t + 1) ≡ state n m t
  state_rests m r at = stays n ok t s applied_at_rest m r at (ap (listed m) is.running.simulator.due)
