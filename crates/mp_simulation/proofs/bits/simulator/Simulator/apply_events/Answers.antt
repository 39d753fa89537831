use Rattle.std.proofs.Common.{◌≡◌, ◌<◌, ◌++◌, ◌∙◌, List, ℕ, length, All, refl, sym, ap, subst}
use Rattle.mp_kernel.specs.events.Adding.{AreAdded, IsAdding}
use Rattle.mp_kernel.specs.events.Toggling.{entries_from, CanToggle}
use Rattle.mp_kernel.proofs.lemmas.events.AddingLemmas.{front, back}
use Rattle.mp_simulation.specs.bits.Simulators.{next_slot}
use Rattle.mp_simulation.proofs.lemmas.bits.ApplyLemmas.{is_applied, all_waved, all_rowed, applied_sound, only_due, applied}
use Rattle.mp_simulation.proofs.lemmas.bits.TurnLemmas.{turned_length}
use Rattle.mp_simulation.proofs.bits.simulator.Simulator.apply_events.Goals as goal

pub toggle_wires-requires-clause-waves : goal.toggle_wires-requires-clause-waves
toggle_wires-requires-clause-waves c =
    let s = c.args.self.now in
    let set = c.args.set.now in
    let same : c.as_slice.result.now ≡ next_slot s ++ set = c.as_slice.ensures ∙ c.in_ok-extend_from_slice.ensures ∙ ap (λ (xs : List ℕ). xs ++ set) c.turn.ensures.present in
    subst (λ ws. All (λ w. w < length s.waves) ws) (sym same) (all_waved s set c.requires.sound c.requires.fit.waved)

pub toggle_wires-requires-clause-rows : goal.toggle_wires-requires-clause-rows
toggle_wires-requires-clause-rows c =
    let s = c.args.self.now in
    let set = c.args.set.now in
    let same : c.as_slice.result.now ≡ next_slot s ++ set = c.as_slice.ensures ∙ c.in_ok-extend_from_slice.ensures ∙ ap (λ (xs : List ℕ). xs ++ set) c.turn.ensures.present in
    subst (λ ws. All (λ w. w < length s.fanout) ws) (sym same)
    (all_rowed s (next_slot s ++ set) c.requires.sound (all_waved s set c.requires.sound c.requires.fit.waved))

pub toggle_wires-requires-clause-over : goal.toggle_wires-requires-clause-over
toggle_wires-requires-clause-over c =
    let s = c.args.self.now in
    let set = c.args.set.now in
    let same : c.as_slice.result.now ≡ next_slot s ++ set = c.as_slice.ensures ∙ c.in_ok-extend_from_slice.ensures ∙ ap (λ (xs : List ℕ). xs ++ set) c.turn.ensures.present in
    subst (λ ws. CanToggle s.waves ws c.args.time) (sym same) c.requires.fit.over

pub toggle_wires-requires-clause-adding : goal.toggle_wires-requires-clause-adding
toggle_wires-requires-clause-adding c =
    let s = c.args.self.now in
    let set = c.args.set.now in
    let same : c.as_slice.result.now ≡ next_slot s ++ set = c.as_slice.ensures ∙ c.in_ok-extend_from_slice.ensures ∙ ap (λ (xs : List ℕ). xs ++ set) c.turn.ensures.present in
    subst (λ ws. IsAdding s.states.items s.due.items (entries_from s.fanout ws)) (sym same)
    (front s.states.items s.due.items (entries_from s.fanout (next_slot s ++ set)) (entries_from s.fanout c.args.others.now) c.requires.fit.adding)

pub add_fanout_events-requires-clause-adding : goal.add_fanout_events-requires-clause-adding
add_fanout_events-requires-clause-adding c =
    let s = c.args.self.now in
    let set = c.args.set.now in
    let same : c.as_slice.result.now ≡ next_slot s ++ set = c.as_slice.ensures ∙ c.in_ok-extend_from_slice.ensures ∙ ap (λ (xs : List ℕ). xs ++ set) c.turn.ensures.present in
    let e = c.in_ok-toggle_wires.ensures in
    let states = c.toggle_wires.new.states.items in
    back s.states.items states s.due.items c.toggle_wires.new.due.items (entries_from s.fanout (next_slot s ++ set)) (entries_from s.fanout c.args.others.now) c.requires.fit.adding
    (subst (λ ws. AreAdded s.states.items states (entries_from s.fanout ws)) same e.added) e.adding e.places

pub returns-clause-sound : goal.returns-clause-sound
returns-clause-sound c =
    let s = c.args.self.now in
    let set = c.args.set.now in
    let same : c.as_slice.result.now ≡ next_slot s ++ set = c.as_slice.ensures ∙ c.in_ok-extend_from_slice.ensures ∙ ap (λ (xs : List ℕ). xs ++ set) c.turn.ensures.present in
    let e = c.in_ok-toggle_wires.ensures in
    let f = c.in_ok-add_fanout_events.ensures in
    applied_sound s _ set c.args.others.now c.args.time c.requires.sound c.requires.fit
    (is_applied s _ set c.args.others.now c.as_slice.result.now c.args.time c.toggle_wires.new.states.items
    same c.turn.ensures.turned refl refl refl e.added f.added f.adding (f.places ∙ e.places) e.waves)

pub returns-clause-applied : goal.returns-clause-applied
returns-clause-applied c n scope t ok now before due =
    let s = c.args.self.now in
    let set = c.args.set.now in
    let same : c.as_slice.result.now ≡ next_slot s ++ set = c.as_slice.ensures ∙ c.in_ok-extend_from_slice.ensures ∙ ap (λ (xs : List ℕ). xs ++ set) c.turn.ensures.present in
    let e = c.in_ok-toggle_wires.ensures in
    let f = c.in_ok-add_fanout_events.ensures in
    applied s _ set c.args.others.now c.args.time c.requires.sound c.requires.fit
    (is_applied s _ set c.args.others.now c.as_slice.result.now c.args.time c.toggle_wires.new.states.items
    same c.turn.ensures.turned refl refl refl e.added f.added f.adding (f.places ∙ e.places) e.waves)
    n ok scope t now before due

pub returns-clause-only : goal.returns-clause-only
returns-clause-only c none =
    let s = c.args.self.now in
    let set = c.args.set.now in
    let same : c.as_slice.result.now ≡ next_slot s ++ set = c.as_slice.ensures ∙ c.in_ok-extend_from_slice.ensures ∙ ap (λ (xs : List ℕ). xs ++ set) c.turn.ensures.present in
    let e = c.in_ok-toggle_wires.ensures in
    let f = c.in_ok-add_fanout_events.ensures in
    only_due s set c.args.others.now c.as_slice.result.now c.args.time c.toggle_wires.new.states.items c.add_fanout_events.new.states.items c.add_fanout_events.new.due.items
    c.requires.sound c.requires.fit same e.added f.added f.adding none

pub returns-clause-units : goal.returns-clause-units
returns-clause-units c = ap (length {A = List ℕ}) c.turn.ensures.turned ∙ turned_length c.args.self.now.wheel c.requires.sound.some

pub returns-clause-places : goal.returns-clause-places
returns-clause-places c = c.in_ok-add_fanout_events.ensures.places ∙ c.in_ok-toggle_wires.ensures.places
