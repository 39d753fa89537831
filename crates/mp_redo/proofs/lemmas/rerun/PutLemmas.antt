-- What is put into the wheels of two spans, one after the other.
use Rattle.std.proofs.Common.{◌≡◌, ℕ, ◌+◌, ◌<◌, ◌≤◌, Bool, true, false, cond, List, [], ◌∷◌, ◌++◌, All, nat_lt, refl, ap, sym, subst, ◌∙◌, append_assoc, arith, inl, inr}
use Rattle.std.specs.Prelude.{◌==◌, ◌&&◌, slice_set, slice_index_or}
use Rattle.std.proofs.lemmas.Bool.{cases_lt, le-ltb, and_right}
use Rattle.std.proofs.lemmas.List.{append-nil}
use Rattle.std.proofs.lemmas.List.Elements.{All-nil, All-head}
use Rattle.mp_wave.specs.Waveform.{between}
use Rattle.mp_netlist.specs.Circuit.{Circuit}
use Rattle.mp_modules.specs.automata.Codes.{bit}
use Rattle.mp_simulation.specs.bits.Changes.{change_at}
use Rattle.mp_simulation.specs.declared.bits.simulation.Simulation.{Simulation}
use Rattle.mp_kernel.specs.events.Firing.{scheduled}
use Rattle.mp_kernel.specs.declared.datapath.level_change.LevelChange.{LevelChange}
use Rattle.mp_kernel.specs.datapath.LevelWheels.{scheduled as levels_scheduled}
use Rattle.mp_simulation.specs.declared.units.data_wires.DataWires.{DataWires}
use Rattle.mp_simulation.specs.declared.units.netlist_simulation.NetlistSimulation.{NetlistSimulation}
use Rattle.mp_active.specs.steps.Putting.{HasPut, toggle_of, toggles_of, entries_of, room}
use Rattle.mp_active.specs.steps.Ahead.{IsEntryOf, AreChangesOf}
use Rattle.mp_active.proofs.lemmas.steps.PutLemmas.{all_between, put_units, put_change_units}
use Rattle.mp_simulation.specs.declared.run.stimuli.StimulusChange.{StimulusChange}
use Rattle.mp_redo.specs.rerun.Returning.{tail_of, others_of}
use Rattle.mp_redo.proofs.lemmas.rerun.TailLemmas.{tail_both, others_both, entries_both}
use Rattle.mp_kernel.proofs.lemmas.events.FiringLemmas.{scheduled_append}

toggles_both : (xs ys : List (ℕ × LevelChange)) → toggles_of (xs ++ ys) ≡ toggles_of xs ++ toggles_of ys
toggles_both [] ys = refl
toggles_both (x ∷ xs) ys = ap (λ (es : List (ℕ × ℕ)). toggle_of x ∷ es) (toggles_both xs ys)

levels_both : (slots : List (List LevelChange)) (xs ys : List (ℕ × LevelChange)) → levels_scheduled slots (xs ++ ys) ≡ levels_scheduled (levels_scheduled slots xs) ys
levels_both slots [] ys = refl
levels_both slots (x ∷ xs) ys = levels_both (slice_set slots x.0 (slice_index_or slots x.0 [] ++ x.1 ∷ [])) xs ys

pub put_both : (wide : Bool) (xs ys : List (ℕ × LevelChange)) (s mid new : NetlistSimulation) → HasPut wide xs s mid → HasPut wide ys mid new → HasPut wide (xs ++ ys) s new
put_both wide xs ys s mid new one other = record {
  bits = other.bits ∙ ap (λ (b : Simulation). record b { simulator = record (b.simulator) { wheel = new.bits.simulator.wheel } }) one.bits;
  events = events wide one.events other.events;
  wires = other.wires ∙ ap (λ (w : DataWires). record w { wheel = new.wires.wheel }) one.wires;
  changes = changes wide one.changes other.changes;
  modules = other.modules ∙ one.modules;
}
  where
    events : (wide : Bool) → mid.bits.simulator.wheel ≡ cond wide s.bits.simulator.wheel (scheduled s.bits.simulator.wheel (toggles_of xs)) →
        new.bits.simulator.wheel ≡ cond wide mid.bits.simulator.wheel (scheduled mid.bits.simulator.wheel (toggles_of ys)) →
        new.bits.simulator.wheel ≡ cond wide s.bits.simulator.wheel (scheduled s.bits.simulator.wheel (toggles_of (xs ++ ys)))
    events true one other = other ∙ one
    events false one other =
        other ∙ ap (λ (wheel : List (List ℕ)). scheduled wheel (toggles_of ys)) one ∙ sym (scheduled_append s.bits.simulator.wheel (toggles_of xs) (toggles_of ys))
        ∙ sym (ap (scheduled s.bits.simulator.wheel) (toggles_both xs ys))

    changes : (wide : Bool) → mid.wires.wheel ≡ cond wide (levels_scheduled s.wires.wheel xs) s.wires.wheel →
        new.wires.wheel ≡ cond wide (levels_scheduled mid.wires.wheel ys) mid.wires.wheel →
        new.wires.wheel ≡ cond wide (levels_scheduled s.wires.wheel (xs ++ ys)) s.wires.wheel
    changes true one other = other ∙ ap (λ (wheel : List (List LevelChange)). levels_scheduled wheel ys) one ∙ sym (levels_both s.wires.wheel xs ys)
    changes false one other = other ∙ one

-- for a wire of width 1 just the toggles count
pub put_as : (wide : Bool) (xs ys : List (ℕ × LevelChange)) (s new : NetlistSimulation) → toggles_of xs ≡ toggles_of ys → (wide ≡ true → xs ≡ ys) → HasPut wide xs s new → HasPut wide ys s new
put_as wide xs ys s new toggles same put = record {
  bits = put.bits;
  events = events wide put.events;
  wires = put.wires;
  changes = changes wide same put.changes;
  modules = put.modules;
}
  where
    events : (wide : Bool) → new.bits.simulator.wheel ≡ cond wide s.bits.simulator.wheel (scheduled s.bits.simulator.wheel (toggles_of xs)) →
        new.bits.simulator.wheel ≡ cond wide s.bits.simulator.wheel (scheduled s.bits.simulator.wheel (toggles_of ys))
    events true is = is
    events false is = is ∙ ap (scheduled s.bits.simulator.wheel) toggles

    changes : (wide : Bool) → (wide ≡ true → xs ≡ ys) → new.wires.wheel ≡ cond wide (levels_scheduled s.wires.wheel xs) s.wires.wheel →
        new.wires.wheel ≡ cond wide (levels_scheduled s.wires.wheel ys) s.wires.wheel
    changes true same is = is ∙ ap (levels_scheduled s.wires.wheel) (same refl)
    changes false same is = is

pub none_put : (wide : Bool) (s : NetlistSimulation) → HasPut wide [] s s
none_put true s = record { bits = refl; events = refl; wires = refl; changes = refl; modules = refl }
none_put false s = record { bits = refl; events = refl; wires = refl; changes = refl; modules = refl }

-- nothing is later than a time and earlier than the next
empty_span : (from : ℕ) (cs : List (ℕ × ℕ)) → All (λ (c : ℕ × ℕ). (from < c.0) × (c.0 < from + 1)) cs → cs ≡ []
empty_span from [] all = refl
empty_span from (c ∷ cs) all = let is = All-head (λ (c : ℕ × ℕ). (from < c.0) × (c.0 < from + 1)) c cs all in let one = is.0 in let other = is.1 in absurd (omega (arith, one, other))

pub none_between : (from to : ℕ) (cs : List (ℕ × ℕ)) → to ≤ from + 1 → between from to cs ≡ []
none_between from to cs short = empty_span from (between from to cs) (λ k d low. let is = all_between from to cs k d low in let one = is.0 in let other = is.1 in (one, omega (arith, short, other)))

pub none_changes : (n : Circuit) (w t from to : ℕ) → to ≤ from + 1 → AreChangesOf n w t from to []
none_changes n w t from to short = record {
  each = λ k x. sym (ap bit (and_right (w == x) (change_at n w (t + 1 + k) && (nat_lt from (t + 1 + k) && nat_lt (t + 1 + k) to)) (and_right (change_at n w (t + 1 + k)) (nat_lt from (t + 1 + k) && nat_lt (t + 1 + k) to) (never (t + 1 + k)))));
  own = All-nil (IsEntryOf n w t);
}
  where
    never : (u : ℕ) → (nat_lt from u && nat_lt u to) ≡ false
    never u = elim (cases_lt from u) as (λ _. (nat_lt from u && nat_lt u to) ≡ false) [
      | inl later ↦ and_right (nat_lt from u) (nat_lt u to) (le-ltb u to (omega (arith, short, later)))
      | inr not ↦ ap (λ b. b && nat_lt u to) (le-ltb from u not)
    ]

-- the wheels keep their units
pub room_kept : (kind wide : Bool) (entries : List (ℕ × LevelChange)) (s new : NetlistSimulation) → HasPut wide entries s new → room kind new ≡ room kind s
room_kept true wide entries s new put = put_change_units wide entries s new put
room_kept false wide entries s new put = put_units wide entries s new put

-- ---- the tail of a wire, one change after the other
pub record ArePutUpTo (wide : Bool) (w t : ℕ) (all left : List StimulusChange) (were : List StimulusChange) (s now : NetlistSimulation) (others : List StimulusChange) : Type 0 where
  pub done : List StimulusChange
  pub whole : done ++ left ≡ all
  pub put : HasPut wide (entries_of w t (tail_of w done)) s now
  pub listed : others ≡ were ++ others_of w done

pub none_up_to : (wide : Bool) (w t : ℕ) (all were : List StimulusChange) (s : NetlistSimulation) → ArePutUpTo wide w t all all were s s were
none_up_to wide w t all were s = record { done = []; whole = refl; put = none_put wide s; listed = sym (append-nil were) }

pub one_up_to : (wide : Bool) (w t : ℕ) (all left were : List StimulusChange) (here : StimulusChange) (s now new : NetlistSimulation) (others more : List StimulusChange) →
    ArePutUpTo wide w t all (here ∷ left) were s now others → HasPut wide (entries_of w t (tail_of w (here ∷ []))) now new → more ≡ others ++ others_of w (here ∷ []) → ArePutUpTo wide w t all left were s new more
one_up_to wide w t all left were here s now new others more so put is = record {
  done = so.done ++ here ∷ [];
  whole = append_assoc so.done (here ∷ []) left ∙ so.whole;
  put = subst (λ (es : List (ℕ × LevelChange)). HasPut wide es s new)
      (sym (ap (entries_of w t) (tail_both w so.done (here ∷ [])) ∙ entries_both w t (tail_of w so.done) (tail_of w (here ∷ []))))
      (put_both wide (entries_of w t (tail_of w so.done)) (entries_of w t (tail_of w (here ∷ []))) s now new so.put put);
  listed = is ∙ ap (λ (xs : List StimulusChange). xs ++ others_of w (here ∷ [])) so.listed ∙ append_assoc were (others_of w so.done) (others_of w (here ∷ []))
      ∙ ap (λ (xs : List StimulusChange). were ++ xs) (sym (others_both w so.done (here ∷ [])));
}

pub all_up_to : (wide : Bool) (w t : ℕ) (all were : List StimulusChange) (s now : NetlistSimulation) (others : List StimulusChange) → ArePutUpTo wide w t all [] were s now others →
    HasPut wide (entries_of w t (tail_of w all)) s now × (others ≡ were ++ others_of w all)
all_up_to wide w t all were s now others so =
    let e : so.done ≡ all = sym (append-nil so.done) ∙ so.whole in (
      subst (λ (xs : List StimulusChange). HasPut wide (entries_of w t (tail_of w xs)) s now) e so.put,
      so.listed ∙ ap (λ (xs : List StimulusChange). were ++ others_of w xs) e,
    )
