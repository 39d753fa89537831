-- A unit in which nothing changes.
use Rattle.std.proofs.Common.{◌≡◌, ℕ, ◌+◌, drop, List, [], ◌∷◌, ◌++◌, Option, All, refl, sym, arith, subst}
use Rattle.mp_netlist.specs.Circuit.{Circuit, IsCircuit}
use Rattle.mp_kernel.specs.events.Adding.{AreAdded, IsAdding}
use Rattle.mp_kernel.specs.events.Firing.{HasSlot}
use Rattle.mp_kernel.specs.events.Toggling.{entries_from, CanToggle, AreToggled}
use Rattle.mp_simulation.specs.declared.bits.simulation.Simulation.{Simulation}
use Rattle.mp_simulation.specs.declared.bits.simulator.Simulator.{Simulator}
use Rattle.mp_simulation.specs.bits.Scopes.{Scope, with_answers}
use Rattle.mp_simulation.specs.bits.Simulators.{next_slot, IsSound, CanApply}
use Rattle.mp_simulation.specs.bits.Units.{IsBefore}
use Rattle.mp_simulation.specs.bits.Copies.{HaveCopies, AreOriginals}
use Rattle.mp_simulation.specs.bits.Simulations.{IsQuiet, IsSoundRun, IsRunning}
use Rattle.mp_simulation.specs.bits.Units.{AreDue}
use Rattle.mp_simulation.specs.bits.WholeRuns.{IsWhole, AreSet}
use Rattle.mp_simulation.proofs.lemmas.bits.ApplyLemmas.{IsApplied, applied_sound, applied}
use Rattle.mp_simulation.proofs.lemmas.bits.CopyLemmas.{copies_later, copies_next}
use Rattle.mp_simulation.proofs.lemmas.bits.FireLemmas.{IsFired}
use Rattle.mp_simulation.proofs.lemmas.bits.FiredLemmas.{fired}
use Rattle.mp_simulation.proofs.lemmas.bits.TurnLemmas.{turned_length}
use Rattle.mp_simulation.proofs.lemmas.bits.SimulationLemmas.{all_changes_now}

-- the same simulator, whose wheel has gone on
abbrev pub turned : Simulator → List (List ℕ) → Simulator
turned s wheel = record s { wheel = wheel }

none_toggle : (s : Simulator) (time : ℕ) → CanToggle s.waves [] time
none_toggle s time = record {
  once = λ w. omega arith;
  over = λ k d within. absurd (omega arith);
}

-- nothing that changes can be applied
pub quiet_fit : (s : Simulator) (time : ℕ) → IsSound s → next_slot s ≡ [] → CanApply s [] [] time
quiet_fit s time sound none = record {
  waved = λ k d within. absurd (omega arith);
  rowed = λ k d within. absurd (omega arith);
  over = subst (λ (xs : List ℕ). CanToggle s.waves (xs ++ []) time) (sym none) (none_toggle s time);
  adding = subst (λ (xs : List ℕ). IsAdding s.states.items s.due.items (entries_from s.fanout (xs ++ []) ++ entries_from s.fanout [])) (sym none) sound.events;
}

none_added : (s : Simulator) → AreAdded s.states.items s.states.items []
none_added s = record { each = λ m. omega arith }

none_toggled : (s : Simulator) (time : ℕ) → AreToggled s.waves s.waves [] time
none_toggled s time = record { placed = refl; each = λ w. refl }

pub quiet_applied : (s : Simulator) (wheel : List (List ℕ)) (time : ℕ) → IsSound s → next_slot s ≡ [] → wheel ≡ drop 1 s.wheel ++ [] ∷ [] → IsApplied s (turned s wheel) [] [] time
quiet_applied s wheel time sound none is = record {
  turned = is;
  fanout = refl;
  levels = refl;
  outputs = refl;
  added = subst (λ (xs : List ℕ). AreAdded s.states.items s.states.items (entries_from s.fanout (xs ++ []) ++ entries_from s.fanout [])) (sym none) (none_added s);
  adding = sound.events;
  places = refl;
  waves = subst (λ (xs : List ℕ). AreToggled s.waves s.waves (xs ++ []) time) (sym none) (none_toggled s time);
}

pub quiet_sound : (s : Simulator) (wheel : List (List ℕ)) → IsSound s → next_slot s ≡ [] → wheel ≡ drop 1 s.wheel ++ [] ∷ [] → IsSound (turned s wheel)
quiet_sound s wheel sound none is = applied_sound s (turned s wheel) [] [] 0 sound (quiet_fit s 0 sound none) (quiet_applied s wheel 0 sound none is)

-- no module is due, so none fires
pub none_fired : (s : Simulator) → s.due.items ≡ [] → IsFired s s
none_fired s none = record {
  states = λ state_of numbered m within. rw none refl;
  levels = λ state_of numbered m within. rw none refl;
  wheel = λ state_of numbered. rw none refl;
  units = refl;
  places = refl;
  leveled = refl;
  due = none;
  fanout = refl;
  outputs = refl;
  waves = refl;
}

module _ (n : Circuit) (ok : IsCircuit n) (scope : Scope) (before : ℕ → Option ℕ) (t : ℕ) (s : Simulation) (sound : IsSoundRun s) (quiet : IsQuiet s)
    (whole : IsWhole n scope before t) (sets : AreSet n scope [] (t + 1)) (is : IsRunning n scope before t s) where
  all_due : AreDue n scope t (next_slot s.simulator ++ []) []
  all_due = subst (λ (xs : List ℕ). AreDue n scope t (next_slot s.simulator ++ []) xs) quiet.copies (all_changes_now n ok scope before t s [] sound is whole sets).due

  no_originals : AreOriginals n scope.source before [] (t + 1)
  no_originals =
      subst (λ (xs : List ℕ). AreOriginals n scope.source before ([] ++ (xs ++ [])) (t + 1)) quiet.wires
      (subst (λ (xs : List ℕ). AreOriginals n scope.source before (xs ++ (next_slot s.simulator ++ [])) (t + 1)) quiet.copies
      (all_changes_now n ok scope before t s [] sound is whole sets).originals)

  pub quiet_before : (wheel : List (List ℕ)) → wheel ≡ drop 1 s.simulator.wheel ++ [] ∷ [] → IsBefore n (with_answers scope (t + 2)) (t + 1) (turned s.simulator wheel)
  quiet_before wheel turns =
      let now = turned s.simulator wheel in
      let fit = quiet_fit s.simulator (t + 1) sound.simulator quiet.wires in
      let applies = quiet_applied s.simulator wheel (t + 1) sound.simulator quiet.wires turns in
      fired now now (quiet_sound s.simulator wheel sound.simulator quiet.wires turns) (none_fired now is.simulator.due) n ok scope t
      (applied s.simulator now [] [] (t + 1) sound.simulator fit applies n ok scope t refl is.simulator all_due)

  pub quiet_copies : (wheel : List (List ℕ)) → wheel ≡ drop 1 s.copies.wheel ++ [] ∷ [] → HaveCopies n scope.source before s.copies.next.items (t + 1) wheel
  quiet_copies wheel turns =
      let c = sound.copies in
      let later = copies_later n scope.source before s.copies.next.items t s.copies.wheel c.some is.chained c.within is.copies in
      let long = turned_length s.copies.wheel c.some in
      subst (λ (slots : List (List ℕ)). HaveCopies n scope.source before s.copies.next.items (t + 1) slots) (sym turns)
      (copies_next n scope.source before s.copies.next.items t (drop 1 s.copies.wheel ++ [] ∷ []) [] is.chained
      (subst (λ k. All (HasSlot k) s.copies.next.items) (sym long) c.within) later no_originals (drop 1 s.copies.wheel ++ [] ∷ []) refl refl)
