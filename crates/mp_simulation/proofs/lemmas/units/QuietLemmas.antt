-- A unit in which nothing changes.
use Rattle.std.proofs.Common.{◌≡◌, ℕ, ◌+◌, ◌<◌, drop, List, [], ◌∷◌, ◌++◌, All, length, map, refl, sym, ap, ◌∙◌, subst}
use Rattle.mp_kernel.specs.events.Adding.{events_for}
use Rattle.mp_kernel.specs.events.Toggling.{entries_from}
use Rattle.mp_kernel.specs.events.Firing.{HasSlot}
use Rattle.mp_simulation.specs.bits.Simulators.{next_slot}
use Rattle.mp_simulation.specs.bits.Units.{AreDue}
use Rattle.mp_simulation.specs.bits.Copies.{HaveCopies, AreOriginals, AreListedBelow}
use Rattle.mp_simulation.specs.bits.Simulations.{copy_slot, IsSoundRun}
use Rattle.mp_simulation.proofs.lemmas.bits.ApplyLemmas.{applied}
use Rattle.mp_simulation.proofs.lemmas.bits.CopyLemmas.{copies_next}
use Rattle.mp_simulation.proofs.lemmas.bits.QuietLemmas.{turned, quiet_fit, quiet_applied, quiet_sound}
use Rattle.mp_simulation.proofs.lemmas.bits.TurnLemmas.{turned_length}
use Rattle.mp_kernel.specs.declared.datapath.level_change.LevelChange.{LevelChange}
use Rattle.mp_kernel.specs.datapath.Levels.{toggled, changed}
use Rattle.mp_kernel.specs.datapath.LevelWheels.{scheduled, copied_from}
use Rattle.mp_simulation.specs.declared.units.netlist_simulation.NetlistSimulation.{NetlistSimulation}
use Rattle.mp_simulation.specs.units.DataLevels.{number_of_change}
use Rattle.mp_simulation.specs.units.DataWaves.{pushed}
use Rattle.mp_simulation.specs.units.DataWheels.{data_slot}
use Rattle.mp_simulation.specs.units.Units.{present_of, others_of, HaveToggled, HaveAdvanced, HaveTurned, HasApplied}

-- the simulation whose wheels have gone on
abbrev pub skipped : NetlistSimulation → List (List ℕ) → List (List ℕ) → List (List LevelChange) → NetlistSimulation
skipped s events copies changes = record s {
  bits = record s.bits { simulator = record s.bits.simulator { wheel = events }; copies = record s.bits.copies { wheel = copies } };
  wires = record s.wires { wheel = changes };
}

module _ (s : NetlistSimulation) (sound : IsSoundRun s.bits) (wires : next_slot s.bits.simulator ≡ []) (late : copy_slot s.bits.copies 0 ≡ []) (still : data_slot s.wires.wheel 0 ≡ [])
    (time : ℕ) (events : List (List ℕ)) (turns : events ≡ drop 1 s.bits.simulator.wheel ++ [] ∷ []) where
  no_others : others_of s [] ≡ []
  no_others =
      ap (λ (xs : List ℕ). xs ++ map number_of_change (data_slot s.wires.wheel 0 ++ [])) late ∙ ap (λ (cs : List LevelChange). map number_of_change (cs ++ [])) still

  quiet_toggled : (copies : List (List ℕ)) (changes : List (List LevelChange)) → HaveToggled s (skipped s events copies changes) [] [] time
  quiet_toggled copies changes = record {
    sound = quiet_sound s.bits.simulator events sound.simulator wires turns;
    applied = λ n scope t ok now before due.
        applied s.bits.simulator (turned s.bits.simulator events) [] [] time sound.simulator (quiet_fit s.bits.simulator time sound.simulator wires)
        (quiet_applied s.bits.simulator events time sound.simulator wires turns) n ok scope t now before
        (subst (λ (xs : List ℕ). AreDue n scope t (next_slot s.bits.simulator ++ []) xs) no_others due);
    only = λ none q rests.
        ap (λ (xs : List ℕ). events_for q (entries_from s.bits.simulator.fanout xs))
        (ap (λ (xs : List ℕ). (xs ++ []) ++ others_of s []) wires ∙ no_others);
    fanout = refl;
    units = ap (length {A = List ℕ}) turns ∙ turned_length s.bits.simulator.wheel sound.simulator.some;
    places = refl;
    waves = refl;
  }

  quiet_advanced : (copies : List (List ℕ)) → copies ≡ drop 1 s.bits.copies.wheel ++ [] ∷ [] → (changes : List (List LevelChange)) → HaveAdvanced s (skipped s events copies changes) []
  quiet_advanced copies copies_turn changes = record {
    next = refl;
    units = ap (length {A = List ℕ}) copies_turn ∙ turned_length s.bits.copies.wheel sound.copies.some;
    low = λ bound below low. subst (λ (slots : List (List ℕ)). AreListedBelow bound slots) (sym copies_turn) low;
    copies = λ n source before t chained later originals.
        let next = s.bits.copies.next.items in
        let long = turned_length s.bits.copies.wheel sound.copies.some in
        let none : AreOriginals n source before [] (t + 1) =
        subst (λ (xs : List ℕ). AreOriginals n source before ([] ++ (xs ++ [])) (t + 1)) wires
        (subst (λ (xs : List ℕ). AreOriginals n source before (xs ++ (next_slot s.bits.simulator ++ [])) (t + 1)) late originals) in
        subst (λ (slots : List (List ℕ)). HaveCopies n source before s.bits.copies.next.items (t + 1) slots) (sym copies_turn)
        (copies_next n source before next t (drop 1 s.bits.copies.wheel ++ [] ∷ []) [] chained
        (subst (λ k. All (HasSlot k) s.bits.copies.next.items) (sym long) sound.copies.within) later none (drop 1 s.bits.copies.wheel ++ [] ∷ []) refl refl);
  }

  quiet_turned : (copies : List (List ℕ)) (changes : List (List LevelChange)) → changes ≡ drop 1 s.wires.wheel ++ [] ∷ [] → 0 < length s.wires.wheel →
      HaveTurned s (skipped s events copies changes) [] [] time
  quiet_turned copies changes changes_turn some = record {
    levels =
        sym (ap (λ (xs : List ℕ). changed (toggled (toggled s.wires.levels.items (xs ++ [])) (copy_slot s.bits.copies 0)) (present_of s [])) wires
        ∙ ap (λ (xs : List ℕ). changed (toggled s.wires.levels.items xs) (present_of s [])) late
        ∙ ap (λ (cs : List LevelChange). changed s.wires.levels.items (cs ++ [])) still);
    waves = sym (ap (λ (cs : List LevelChange). pushed s.wires.waves.items time (cs ++ [])) still);
    next = refl;
    wheel = changes_turn ∙ sym (ap (λ (cs : List LevelChange). scheduled (drop 1 s.wires.wheel ++ [] ∷ []) (copied_from s.wires.next.items (cs ++ []))) still);
    units = ap (length {A = List LevelChange}) changes_turn ∙ turned_length s.wires.wheel some;
  }

  -- nothing is all that changes, and it has been applied
  pub quiet_unit : (copies : List (List ℕ)) → copies ≡ drop 1 s.bits.copies.wheel ++ [] ∷ [] → (changes : List (List LevelChange)) → changes ≡ drop 1 s.wires.wheel ++ [] ∷ [] →
      0 < length s.wires.wheel → HasApplied s (skipped s events copies changes) [] [] time
  quiet_unit copies copies_turn changes changes_turn some = record {
    toggled = quiet_toggled copies changes;
    advanced = quiet_advanced copies copies_turn changes;
    turned = quiet_turned copies changes changes_turn some;
    modules = refl;
  }
