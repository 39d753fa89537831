use Rattle.std.proofs.Common.{◌≡◌, ℕ, ◌+◌, ◌∙◌, drop, ◌++◌, ◌∷◌, [], List, length, refl, ap}
use Rattle.mp_netlist.specs.Circuit.{Circuit}
use Rattle.mp_kernel.specs.declared.events.fanout_entry.FanoutEntry.{FanoutEntry}
use Rattle.mp_kernel.specs.declared.events.output_port.OutputPort.{OutputPort}
use Rattle.mp_simulation.proofs.lemmas.bits.TurnLemmas.{turned_length}
use Rattle.mp_kernel.specs.declared.datapath.level_change.LevelChange.{LevelChange}
use Rattle.mp_simulation.specs.declared.units.netlist_simulation.NetlistSimulation.{NetlistSimulation}
use Rattle.mp_simulation.specs.units.NetlistSimulations.{IsSimulated, AreStimuli, IsStill}
use Rattle.mp_simulation.specs.units.Units.{IsApplied}
use Rattle.mp_simulation.proofs.lemmas.units.QuietLemmas.{skipped, quiet_unit}
use Rattle.mp_simulation.proofs.lemmas.units.RestingLemmas.{none_due}
use Rattle.mp_simulation.proofs.units.netlist_simulation.NetlistSimulation.skip_unit.Goals as goal

-- nothing is all that changes, and it has been applied
is_applied : (s : NetlistSimulation) → IsStill s → (events copies : List (List ℕ)) (changes : List (List LevelChange)) → events ≡ drop 1 s.bits.simulator.wheel ++ [] ∷ [] →
    copies ≡ drop 1 s.bits.copies.wheel ++ [] ∷ [] → changes ≡ drop 1 s.wires.wheel ++ [] ∷ [] → (n : Circuit) (t : ℕ) → IsSimulated n t s → AreStimuli n [] [] (t + 1) →
    IsApplied n t (skipped s events copies changes)
is_applied s still events copies changes turns copies_turn changes_turn n t is sets = record {
  before = s;
  is = is;
  set = [];
  changes = [];
  stimuli = sets;
  applied = quiet_unit s is.sound still.wires still.copies still.changes (t + 1) events turns copies copies_turn changes changes_turn is.wires.some;
}

pub returns-clause-applied : goal.returns-clause-applied
returns-clause-applied c n t ok is sets =
    is_applied c.args.self.now c.requires.still c.skip.new.self c.skip-2.new.self c.skip-3.new.self c.skip.ensures c.skip-2.ensures c.skip-3.ensures n t is sets

pub returns-clause-passed : goal.returns-clause-passed
returns-clause-passed c n t ok is sets =
    let s = c.args.self.now in
    none_due n ok t (skipped s c.skip.new.self c.skip-2.new.self c.skip-3.new.self)
    (is_applied s c.requires.still c.skip.new.self c.skip-2.new.self c.skip-3.new.self c.skip.ensures c.skip-2.ensures c.skip-3.ensures n t is sets) is.running.simulator.due

pub returns-clause-numbers : goal.returns-clause-numbers
returns-clause-numbers c =
    let s = c.args.self.now in
    let sound = c.requires.bits in
    record {
      rows = refl {A = List (List FanoutEntry)};
      outputs = refl;
      next = refl {A = List OutputPort};
      data_next = refl {A = List OutputPort};
      units = ap (length {A = List ℕ}) c.skip.ensures ∙ turned_length s.bits.simulator.wheel sound.simulator.some;
      copy_units = ap (length {A = List ℕ}) c.skip-2.ensures ∙ turned_length s.bits.copies.wheel sound.copies.some;
      change_units = ap (length {A = List LevelChange}) c.skip-3.ensures ∙ turned_length s.wires.wheel c.requires.wheel;
      places = refl;
      seats = refl {A = ℕ};
    }
