use Rattle.std.proofs.Common.{◌≡◌, ℕ, ◌+◌, ◌≤◌, ◌++◌, ◌∙◌, List, All, length, map, refl, sym, ap, subst}
use Rattle.mp_kernel.specs.declared.events.output_port.OutputPort.{OutputPort}
use Rattle.mp_kernel.specs.events.Firing.{HasSlot}
use Rattle.mp_simulation.specs.bits.Copies.{AreChained, HaveCopies, HaveLaterCopies, AreOriginals, AreListedBelow}
use Rattle.mp_simulation.specs.bits.Simulators.{next_slot, IsBelow, AreOnlyDue}
use Rattle.mp_simulation.specs.bits.Units.{AreDue}
use Rattle.mp_simulation.specs.bits.Simulations.{copy_slot}
use Rattle.mp_simulation.proofs.lemmas.bits.CopyLemmas.{behind_kept}
use Rattle.mp_simulation.proofs.lemmas.bits.TurnLemmas.{turned_length}
use Rattle.mp_kernel.specs.declared.datapath.level_change.LevelChange.{LevelChange}
use Rattle.mp_wave.specs.Building.{Building}
use Rattle.mp_simulation.specs.units.DataLevels.{number_of_change}
use Rattle.mp_simulation.specs.units.DataWaves.{building_at, pushed}
use Rattle.mp_simulation.specs.units.NetlistSimulations.{AreStimuli}
use Rattle.mp_simulation.specs.units.Units.{present_of}
use Rattle.mp_simulation.proofs.lemmas.units.PassLemmas.{can_begin, wires_in, late_in, changes_in, once, over, levels_as, copied_as}
use Rattle.mp_simulation.proofs.units.netlist_simulation.NetlistSimulation.apply_changes.Goals as goal

pub apply_events-requires-clause-fit : goal.apply_events-requires-clause-fit
apply_events-requires-clause-fit c =
    let s = c.args.self.now in
    let begun = c.in_ok-begin_unit.ensures in
    let same = c.as_slice-2.ensures.value ∙ begun.heard
    ∙ ap (λ (xs : List ℕ). xs ++ map number_of_change c.begin_unit-2.new.self.present) (c.as_slice.ensures ∙ c.begin_unit.ensures.present)
    ∙ ap (λ (cs : List LevelChange). copy_slot s.bits.copies 0 ++ map number_of_change cs) begun.present in
    can_begin s c.args.set.now c.args.levels.now c.args.time c.requires.fit c.as_slice-2.result.now same

pub apply-requires-clause-wires : goal.apply-requires-clause-wires
apply-requires-clause-wires c =
    let s = c.args.self.now in
    wires_in s c.args.set.now c.args.levels.now c.args.time c.requires.fit (length c.begin_unit-2.new.self.levels.items) c.as_slice-3.result.now
    (ap (length {A = ℕ}) c.in_ok-begin_unit.ensures.levels ∙ c.requires.fit.is.wires.places) (c.as_slice-3.ensures ∙ c.in_ok-apply_events.ensures.present)

pub apply-requires-clause-late : goal.apply-requires-clause-late
apply-requires-clause-late c =
    let s = c.args.self.now in
    late_in s c.args.set.now c.args.levels.now c.args.time c.requires.fit (length c.begin_unit-2.new.self.levels.items) c.as_slice-4.result.now
    (ap (length {A = ℕ}) c.in_ok-begin_unit.ensures.levels ∙ c.requires.fit.is.wires.places) (c.as_slice-4.ensures ∙ c.begin_unit.ensures.present)

pub apply-requires-clause-present : goal.apply-requires-clause-present
apply-requires-clause-present c =
    let s = c.args.self.now in
    changes_in s c.args.set.now c.args.levels.now c.args.time c.requires.fit (length c.begin_unit-2.new.self.levels.items) c.begin_unit-2.new.self.present
    (ap (length {A = ℕ}) c.in_ok-begin_unit.ensures.levels ∙ c.requires.fit.is.wires.places) c.in_ok-begin_unit.ensures.present

pub apply-requires-clause-once : goal.apply-requires-clause-once
apply-requires-clause-once c =
    let s = c.args.self.now in
    once s c.args.set.now c.args.levels.now c.args.time c.requires.fit c.begin_unit-2.new.self.present c.in_ok-begin_unit.ensures.present

pub apply-requires-clause-over : goal.apply-requires-clause-over
apply-requires-clause-over c w =
    let s = c.args.self.now in
    subst (λ (bs : List Building). (building_at bs w).next ≤ c.args.time) (sym c.in_ok-begin_unit.ensures.waves) (over s c.args.set.now c.args.levels.now c.args.time c.requires.fit w)

pub advance-requires-clause-wires : goal.advance-requires-clause-wires
advance-requires-clause-wires c =
    let s = c.args.self.now in
    wires_in s c.args.set.now c.args.levels.now c.args.time c.requires.fit (length c.begin_unit.new.self.next.items) c.as_slice-5.result.now
    (ap (length {A = OutputPort}) c.begin_unit.ensures.same ∙ c.requires.fit.is.sound.copies.next) (c.as_slice-5.ensures ∙ c.in_ok-apply_events.ensures.present)

pub advance-requires-clause-present : goal.advance-requires-clause-present
advance-requires-clause-present c =
    let s = c.args.self.now in
    late_in s c.args.set.now c.args.levels.now c.args.time c.requires.fit (length c.begin_unit.new.self.next.items) c.begin_unit.new.self.present
    (ap (length {A = OutputPort}) c.begin_unit.ensures.same ∙ c.requires.fit.is.sound.copies.next) c.begin_unit.ensures.present

pub advance-requires-clause-within : goal.advance-requires-clause-within
advance-requires-clause-within c =
    let old = c.args.self.now.bits.copies in
    let sound = c.requires.fit.is.sound.copies in
    let units = ap (length {A = List ℕ}) c.begin_unit.ensures.wheel ∙ turned_length old.wheel sound.some in
    subst (λ (ports : List OutputPort). All (HasSlot (length c.begin_unit.new.self.wheel)) ports) (sym c.begin_unit.ensures.same)
    (subst (λ k. All (HasSlot k) old.next.items) (sym units) sound.within)

pub advance-requires-clause-below : goal.advance-requires-clause-below
advance-requires-clause-below c =
    let sound = c.requires.fit.is.sound.copies in
    subst (λ (ports : List OutputPort). All (IsBelow (length ports)) ports) (sym c.begin_unit.ensures.same)
    (subst (λ k. All (IsBelow k) c.args.self.now.bits.copies.next.items) (sym sound.next) sound.below)

pub advance-requires-clause-behind : goal.advance-requires-clause-behind
advance-requires-clause-behind c =
    behind_kept c.args.self.now.bits.copies.next.items _ _ _ c.requires.fit.is.sound.behind c.begin_unit.ensures.same (c.len.ensures ∙ c.in_ok-apply_events.ensures.waves)

pub advance-requires-2-clause-present : goal.advance-requires-2-clause-present
advance-requires-2-clause-present c =
    let s = c.args.self.now in
    let begun = c.in_ok-begin_unit.ensures in
    let applied = c.in_ok-apply.ensures in
    changes_in s c.args.set.now c.args.levels.now c.args.time c.requires.fit (length c.apply.new.self.next.items) c.apply.new.self.present
    (ap (length {A = OutputPort}) (applied.next ∙ begun.next) ∙ c.requires.fit.is.wires.next) (applied.present ∙ begun.present)

pub advance-requires-2-clause-within : goal.advance-requires-2-clause-within
advance-requires-2-clause-within c =
    let s = c.args.self.now in
    let is = c.requires.fit.is in
    let begun = c.in_ok-begin_unit.ensures in
    let applied = c.in_ok-apply.ensures in
    let units = ap (length {A = List LevelChange}) (applied.wheel ∙ begun.wheel) ∙ turned_length s.wires.wheel is.wires.some in
    subst (λ (ports : List OutputPort). All (HasSlot (length c.apply.new.self.wheel)) ports) (sym (applied.next ∙ begun.next))
    (subst (λ k. All (HasSlot k) s.wires.next.items) (sym units) is.wires.within)

pub returns-clause-numbers : goal.returns-clause-numbers
returns-clause-numbers c =
    let s = c.args.self.now in
    let begun = c.in_ok-begin_unit.ensures in
    let applied = c.in_ok-apply.ensures in
    let advanced = c.in_ok-advance-2.ensures in
    let e = c.in_ok-apply_events.ensures in
    let late = c.in_ok-advance.ensures in
    let copies = c.begin_unit.ensures in
    let is = c.requires.fit.is in
    record {
      rows = e.same;
      outputs = e.outputs;
      next = late.same ∙ copies.same;
      data_next = advanced.next ∙ applied.next ∙ begun.next;
      units = e.units;
      copy_units = late.places ∙ ap (length {A = List ℕ}) copies.wheel ∙ turned_length s.bits.copies.wheel is.sound.copies.some;
      change_units = advanced.places ∙ ap (length {A = List LevelChange}) (applied.wheel ∙ begun.wheel) ∙ turned_length s.wires.wheel is.wires.some;
      places = refl;
      seats = refl;
    }

pub returns-clause-applied : goal.returns-clause-applied
returns-clause-applied c n t ok now is sets =
    let s = c.args.self.now in
    let begun = c.in_ok-begin_unit.ensures in
    let applied = c.in_ok-apply.ensures in
    let advanced = c.in_ok-advance-2.ensures in
    let e = c.in_ok-apply_events.ensures in
    let late = c.in_ok-advance.ensures in
    let present = begun.present in
    let wires : c.as_slice-5.result.now ≡ next_slot s.bits.simulator ++ c.args.set.now = c.as_slice-5.ensures ∙ e.present in
    let others = c.as_slice-2.ensures.value ∙ begun.heard
    ∙ ap (λ (xs : List ℕ). xs ++ map number_of_change c.begin_unit-2.new.self.present) (c.as_slice.ensures ∙ c.begin_unit.ensures.present)
    ∙ ap (λ (cs : List LevelChange). copy_slot s.bits.copies 0 ++ map number_of_change cs) begun.present in
    let old = s.bits.copies in
    let copies = c.begin_unit.ensures in
    let changes = c.begin_unit-2.new.self.present in
    record {
      before = s;
      is = is;
      set = c.args.set.now;
      changes = c.args.levels.now;
      stimuli = subst (λ u. AreStimuli n c.args.set.now c.args.levels.now u) now sets;
      applied = record {
        toggled = record {
          sound = e.sound;
          applied = λ n2 scope t2 ok2 at before are.
              e.applied n2 scope t2 ok2 (now ∙ at) before (subst (λ (xs : List ℕ). AreDue n2 scope t2 (next_slot s.bits.simulator ++ c.args.set.now) xs) (sym others) are);
          only = λ none. subst (λ (xs : List ℕ). AreOnlyDue s.bits.simulator.fanout ((next_slot s.bits.simulator ++ c.args.set.now) ++ xs) c.apply_events.new.self.due.items) others (e.only none);
          fanout = e.same;
          units = e.units;
          places = e.places;
          waves = e.waves;
        };
        advanced = record {
          next = late.same ∙ copies.same;
          units = late.places ∙ ap (length {A = List ℕ}) copies.wheel ∙ turned_length old.wheel is.sound.copies.some;
          low = λ bound below low.
              late.low bound (subst (λ (ports : List OutputPort). All (IsBelow bound) ports) (sym copies.same) below)
              (subst (λ (slots : List (List ℕ)). AreListedBelow bound slots) (sym copies.wheel) low);
          copies = λ n2 source before t2 chained later originals.
              subst (λ (ports : List OutputPort). HaveCopies n2 source before ports (t2 + 1) c.advance.new.self.wheel) copies.same
              (late.next n2 source before t2
              (subst (λ (ports : List OutputPort). AreChained source before ports) (sym copies.same) chained)
              (subst (λ (ports : List OutputPort). HaveLaterCopies n2 source before ports t2 c.begin_unit.new.self.wheel) (sym copies.same)
              (subst (λ (slots : List (List ℕ)). HaveLaterCopies n2 source before old.next.items t2 slots) (sym copies.wheel) later))
              (subst (λ (xs : List ℕ). AreOriginals n2 source before (xs ++ c.as_slice-5.result.now) (t2 + 1)) (sym copies.present)
              (subst (λ (xs : List ℕ). AreOriginals n2 source before (copy_slot s.bits.copies 0 ++ xs) (t2 + 1)) (sym wires) originals)));
        };
        turned = record {
          levels = advanced.levels
              ∙ levels_as s c.args.set.now c.args.levels.now c.apply.new.self.levels.items c.begin_unit-2.new.self.levels.items c.as_slice-3.result.now c.as_slice-4.result.now changes
              begun.levels (c.as_slice-3.ensures ∙ e.present) (c.as_slice-4.ensures ∙ copies.present) present applied.levels;
          waves = advanced.waves ∙ applied.waves ∙ ap (λ (bs : List Building). pushed bs c.args.time changes) begun.waves
              ∙ ap (λ (cs : List LevelChange). pushed s.wires.waves.items c.args.time cs) present
              ∙ ap (λ u. pushed s.wires.waves.items u (present_of s c.args.levels.now)) now;
          next = advanced.next ∙ applied.next ∙ begun.next;
          wheel = copied_as s c.args.levels.now c.advance-2.new.self.wheel c.apply.new.self.wheel c.apply.new.self.next.items c.apply.new.self.present
              (applied.wheel ∙ begun.wheel) (applied.next ∙ begun.next) (applied.present ∙ present) advanced.wheel;
          units = advanced.places ∙ ap (length {A = List LevelChange}) (applied.wheel ∙ begun.wheel) ∙ turned_length s.wires.wheel is.wires.some;
        };
        modules = refl;
      };
    }
