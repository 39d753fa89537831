-- A whole unit.
use Rattle.std.proofs.Common.{◌≡◌, ℕ, ◌+◌, ◌<◌, List, [], ◌∷◌, ◌++◌, Option, true, All, length, refl, sym, ap, ◌∙◌, arith, subst}
use Rattle.std.specs.Prelude.{slice_index_or}
use Rattle.mp_netlist.specs.Circuit.{Circuit, IsCircuit}
use Rattle.mp_modules.specs.automata.Codes.{bit}
use Rattle.mp_kernel.specs.declared.events.output_port.OutputPort.{OutputPort}
use Rattle.mp_kernel.specs.events.Adding.{listed}
use Rattle.mp_kernel.specs.events.Firing.{HasSlot}
use Rattle.mp_simulation.specs.declared.bits.delayed_copies.DelayedCopies.{DelayedCopies}
use Rattle.mp_simulation.specs.declared.bits.simulation.Simulation.{Simulation}
use Rattle.mp_simulation.specs.declared.bits.simulator.Simulator.{Simulator}
use Rattle.mp_simulation.specs.bits.Changes.{late_change}
use Rattle.mp_simulation.specs.bits.Scopes.{Scope, with_answers}
use Rattle.mp_simulation.specs.bits.Simulators.{next_slot, IsBelow}
use Rattle.mp_simulation.specs.bits.Units.{IsBefore, IsDuring}
use Rattle.mp_simulation.specs.bits.Copies.{AreChained, HaveCopies, AreListedBelow}
use Rattle.mp_simulation.specs.bits.Simulations.{copy_slot, AreSoundCopies, IsSoundRun, IsRunning, HasHeard, CanGoOn}
use Rattle.mp_simulation.specs.bits.WholeRuns.{is_number, IsWhole, AreSet, IsAll}
use Rattle.mp_simulation.proofs.lemmas.bits.ListedLemmas.{all_below}
use Rattle.mp_simulation.proofs.lemmas.bits.DueLemmas.{can_apply}
use Rattle.mp_simulation.proofs.lemmas.bits.WholeLemmas.{heard, slots_have_all}

-- the numbers in the first slot are numbers
pub all_numbers : (numbers : ℕ) (copies : DelayedCopies) → AreSoundCopies numbers copies → All (λ x. x < numbers) (copy_slot copies 0)
all_numbers numbers copies sound = all_below numbers (copy_slot copies 0) (λ x high. sound.numbered x 0 high)

head_is : (slots : List (List ℕ)) (slot : List ℕ) (rest : List (List ℕ)) → slots ≡ slot ∷ rest → slot ≡ slice_index_or slots 0 []
head_is slots slot rest is = sym (ap (λ (xs : List (List ℕ)). slice_index_or xs 0 []) is)

split : (slots : List (List ℕ)) → 0 < length slots → (slot : List ℕ) × ((rest : List (List ℕ)) × (slots ≡ slot ∷ rest))
split [] some = absurd (omega arith)
split (slot ∷ rest) some = (slot, (rest, refl))

-- all that changes, by the slots of a simulation
pub all_changes : (n : Circuit) → IsCircuit n → (scope : Scope) (before : ℕ → Option ℕ) (t : ℕ) (s : Simulation) (set slot : List ℕ) (rest : List (List ℕ)) → IsSoundRun s →
    IsRunning n scope before t s → IsWhole n scope before t → AreSet n scope set (t + 1) → s.copies.wheel ≡ slot ∷ rest → IsAll n scope before t (next_slot s.simulator ++ set) slot
all_changes n ok scope before t s set slot rest sound is whole sets taken =
    slots_have_all n ok scope before s.copies.next.items t s.simulator set slot rest is.simulator sound.simulator.some whole sets is.chained
    (subst (λ (slots : List (List ℕ)). HaveCopies n scope.source before s.copies.next.items t slots) taken is.copies)

-- the same, where the slot is the next one
pub all_changes_now : (n : Circuit) → IsCircuit n → (scope : Scope) (before : ℕ → Option ℕ) (t : ℕ) (s : Simulation) (set : List ℕ) → IsSoundRun s →
    IsRunning n scope before t s → IsWhole n scope before t → AreSet n scope set (t + 1) → IsAll n scope before t (next_slot s.simulator ++ set) (copy_slot s.copies 0)
all_changes_now n ok scope before t s set sound is whole sets =
    let parts = split s.copies.wheel sound.copies.some in
    subst (λ (xs : List ℕ). IsAll n scope before t (next_slot s.simulator ++ set) xs) (head_is s.copies.wheel parts.0 parts.1.0 parts.1.1)
    (all_changes n ok scope before t s set parts.0 parts.1.0 sound is whole sets parts.1.1)

-- each number is heard where its source changes
pub heard_now : (n : Circuit) → IsCircuit n → (scope : Scope) (before : ℕ → Option ℕ) (t : ℕ) (s : Simulation) (set : List ℕ) → IsSoundRun s →
    IsRunning n scope before t s → IsWhole n scope before t → AreSet n scope set (t + 1) → (x : ℕ) → is_number scope before x ≡ true →
    listed x (next_slot s.simulator ++ set) + listed x (copy_slot s.copies 0) ≡ bit (late_change n (scope.source x) (t + 1))
heard_now n ok scope before t s set sound is whole sets x number =
    let parts = split s.copies.wheel sound.copies.some in
    subst (λ (xs : List ℕ). listed x (next_slot s.simulator ++ set) + listed x xs ≡ bit (late_change n (scope.source x) (t + 1))) (head_is s.copies.wheel parts.0 parts.1.0 parts.1.1)
    (heard n ok scope before s.copies.next.items t s.simulator set parts.0 parts.1.0 is.simulator sound.simulator.some whole sets is.chained
    (subst (λ (slots : List (List ℕ)). HaveCopies n scope.source before s.copies.next.items t slots) parts.1.1 is.copies) x number)

pub can_go_on : CanGoOn
can_go_on n ok scope before t s set sound is whole sets waved =
    can_apply n ok scope t s.simulator set (copy_slot s.copies 0) sound.simulator is.simulator (all_changes_now n ok scope before t s set sound is whole sets).due waved
    (all_numbers (length s.simulator.fanout) s.copies sound.copies)

pub copies_sound : (old new : DelayedCopies) (numbers more : ℕ) → AreSoundCopies numbers old → new.next.items ≡ old.next.items → length new.wheel ≡ length old.wheel →
    AreListedBelow numbers new.wheel → more ≡ numbers → AreSoundCopies more new
copies_sound old new numbers more sound items units low counts =
    let some = sound.some in
    record {
      next = ap (length {A = OutputPort}) items ∙ sound.next ∙ sym counts;
      some = omega arith;
      within = subst (λ (ports : List OutputPort). All (HasSlot (length new.wheel)) ports) (sym items) (subst (λ k. All (HasSlot k) old.next.items) (sym units) sound.within);
      below = subst (λ (ports : List OutputPort). All (IsBelow more) ports) (sym items) (subst (λ k. All (IsBelow k) old.next.items) (sym counts) sound.below);
      numbered = subst (λ k. AreListedBelow k new.wheel) (sym counts) low;
    }

pub running : (n : Circuit) (scope : Scope) (before : ℕ → Option ℕ) (t : ℕ) (s : Simulation) (new : DelayedCopies) (simulator : Simulator) →
    IsRunning n scope before t s → new.next.items ≡ s.copies.next.items → HaveCopies n scope.source before s.copies.next.items (t + 1) new.wheel →
    IsBefore n (with_answers scope (t + 2)) (t + 1) simulator → IsRunning n (with_answers scope (t + 2)) before (t + 1) (record { simulator = simulator; copies = new })
running n scope before t s new simulator is same next after = record {
  simulator = after;
  chained = subst (λ (ports : List OutputPort). AreChained scope.source before ports) (sym same) is.chained;
  copies = subst (λ (ports : List OutputPort). HaveCopies n scope.source before ports (t + 1) new.wheel) (sym same) next;
}

pub all_heard : (n : Circuit) (scope : Scope) (before : ℕ → Option ℕ) (t : ℕ) (s : Simulation) (new : DelayedCopies) (simulator : Simulator) →
    IsRunning n scope before t s → new.next.items ≡ s.copies.next.items → HaveCopies n scope.source before s.copies.next.items (t + 1) new.wheel →
    IsDuring n scope t simulator → HasHeard n scope before t (record { simulator = simulator; copies = new })
all_heard n scope before t s new simulator is same next during = record {
  simulator = during;
  chained = subst (λ (ports : List OutputPort). AreChained scope.source before ports) (sym same) is.chained;
  copies = subst (λ (ports : List OutputPort). HaveCopies n scope.source before ports (t + 1) new.wheel) (sym same) next;
}
