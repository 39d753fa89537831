use Rattle.std.proofs.Common.{◌≡◌, ℕ, ◌+◌, ◌<◌, ◌++◌, ◌∙◌, List, All, length, sym, ap, subst}
use Rattle.mp_kernel.specs.declared.events.output_port.OutputPort.{OutputPort}
use Rattle.mp_simulation.specs.bits.Simulators.{next_slot, IsBelow}
use Rattle.mp_simulation.specs.bits.Units.{AreDue}
use Rattle.mp_simulation.specs.bits.Copies.{AreChained, HaveCopies, HaveLaterCopies, AreOriginals, AreListedBelow}
use Rattle.mp_simulation.specs.bits.Simulations.{copy_slot}
use Rattle.mp_simulation.proofs.lemmas.bits.ApplyLemmas.{all_waved, all_rowed}
use Rattle.mp_simulation.proofs.lemmas.bits.CopyLemmas.{copies_later, behind_kept, low_turned}
use Rattle.mp_simulation.proofs.lemmas.bits.SimulationLemmas.{all_changes_now, copies_sound, all_heard}
use Rattle.mp_simulation.proofs.lemmas.bits.TurnLemmas.{turned_length}
use Rattle.mp_simulation.proofs.bits.simulation.Simulation.apply.Goals as goal

pub advance-requires-clause-wires : goal.advance-requires-clause-wires
advance-requires-clause-wires c =
    let s = c.args.self.now.simulator in
    let set = c.args.set.now in
    let present : c.as_slice-2.result.now ≡ next_slot s ++ set = c.as_slice-2.ensures ∙ c.in_ok-apply_events.ensures.present in
    let numbers : length c.begin_unit.new.self.next.items ≡ length s.fanout = ap (length {A = OutputPort}) c.begin_unit.ensures.same ∙ c.requires.sound.copies.next in
    subst (λ k. All (λ w. w < k) c.as_slice-2.result.now) (sym numbers)
    (subst (λ (ws : List ℕ). All (λ w. w < length s.fanout) ws) (sym present)
    (all_rowed s (next_slot s ++ set) c.requires.sound.simulator (all_waved s set c.requires.sound.simulator c.requires.fit.waved)))

pub advance-requires-clause-below : goal.advance-requires-clause-below
advance-requires-clause-below c =
    let sound = c.requires.sound.copies in
    subst (λ (ports : List OutputPort). All (IsBelow (length ports)) ports) (sym c.begin_unit.ensures.same)
    (subst (λ k. All (IsBelow k) c.args.self.now.copies.next.items) (sym sound.next) sound.below)

pub advance-requires-clause-behind : goal.advance-requires-clause-behind
advance-requires-clause-behind c =
    behind_kept c.args.self.now.copies.next.items _ _ _ c.requires.sound.behind c.begin_unit.ensures.same (c.len.ensures ∙ c.in_ok-apply_events.ensures.waves)

pub returns-clause-sound : goal.returns-clause-sound
returns-clause-sound c =
    let old = c.args.self.now.copies in
    let numbers = length c.args.self.now.simulator.fanout in
    let sound = c.requires.sound.copies in
    let begun = c.begin_unit.ensures in
    let below = subst (λ (ports : List OutputPort). All (IsBelow numbers) ports) (sym begun.same) sound.below in
    let low = subst (λ (slots : List (List ℕ)). AreListedBelow numbers slots) (sym begun.wheel) (low_turned numbers old.wheel sound.numbered) in
    record {
      simulator = c.in_ok-apply_events.ensures.sound;
      copies = copies_sound old c.advance.new.self numbers _ sound (c.in_ok-advance.ensures.same ∙ begun.same)
          (c.in_ok-advance.ensures.places ∙ ap (length {A = List ℕ}) begun.wheel ∙ turned_length old.wheel sound.some)
          (c.in_ok-advance.ensures.low numbers below low) (ap length c.in_ok-apply_events.ensures.same);
      behind = behind_kept old.next.items _ _ _ c.requires.sound.behind (c.in_ok-advance.ensures.same ∙ begun.same) c.in_ok-apply_events.ensures.waves;
    }

pub returns-clause-heard : goal.returns-clause-heard
returns-clause-heard c n scope before t ok now whole sets is =
    let s = c.args.self.now in
    let set = c.args.set.now in
    let sound = c.requires.sound.copies in
    let begun = c.begin_unit.ensures in
    let next = s.copies.next.items in
    let all = all_changes_now n ok scope before t s set c.requires.sound is whole sets in
    let present : c.as_slice-2.result.now ≡ next_slot s.simulator ++ set = c.as_slice-2.ensures ∙ c.in_ok-apply_events.ensures.present in
    let due = subst (λ (xs : List ℕ). AreDue n scope t (next_slot s.simulator ++ set) xs) (sym (c.as_slice.ensures ∙ begun.present)) all.due in
    let during = c.in_ok-apply_events.ensures.applied n scope t ok now is.simulator due in
    let originals = subst (λ (xs : List ℕ). AreOriginals n scope.source before (xs ++ c.as_slice-2.result.now) (t + 1)) (sym begun.present)
    (subst (λ (xs : List ℕ). AreOriginals n scope.source before (copy_slot s.copies 0 ++ xs) (t + 1)) (sym present) all.originals) in
    let later = subst (λ (slots : List (List ℕ)). HaveLaterCopies n scope.source before next t slots) (sym begun.wheel)
    (copies_later n scope.source before next t s.copies.wheel sound.some is.chained sound.within is.copies) in
    let advanced = c.in_ok-advance.ensures.next n scope.source before t
    (subst (λ (ports : List OutputPort). AreChained scope.source before ports) (sym begun.same) is.chained)
    (subst (λ (ports : List OutputPort). HaveLaterCopies n scope.source before ports t c.begin_unit.new.self.wheel) (sym begun.same) later) originals in
    all_heard n scope before t s c.advance.new.self c.apply_events.new.self is (c.in_ok-advance.ensures.same ∙ begun.same)
    (subst (λ (ports : List OutputPort). HaveCopies n scope.source before ports (t + 1) c.advance.new.self.wheel) begun.same advanced)
    during
