use Rattle.std.proofs.Common.{◌<◌, ◌≤◌, List, ℕ, length, All, refl, sym, subst}
use Rattle.mp_kernel.specs.events.Adding.{listed}
use Rattle.mp_simulation.proofs.lemmas.bits.FireLemmas.{due_once, due_placed, due_led, is_fired, fired_sound}
use Rattle.mp_simulation.proofs.lemmas.bits.FiredLemmas.{fired}
use Rattle.mp_simulation.proofs.bits.simulator.Simulator.fire.Goals as goal

pub fire_modules-requires-clause-ports : goal.fire_modules-requires-clause-ports
fire_modules-requires-clause-ports c =
    subst (λ (due : List ℕ). All (λ q. q < length c.args.self.now.outputs) due) (sym c.as_slice.ensures.value) (due_led c.args.self.now c.requires.sound)

pub fire_modules-requires-clause-states : goal.fire_modules-requires-clause-states
fire_modules-requires-clause-states c =
    subst (λ (due : List ℕ). All (λ q. q < length c.args.self.now.states.items) due) (sym c.as_slice.ensures.value) (due_placed c.args.self.now c.requires.sound)

pub fire_modules-requires-clause-levels : goal.fire_modules-requires-clause-levels
fire_modules-requires-clause-levels c = c.requires.sound.levels

pub fire_modules-requires-clause-once : goal.fire_modules-requires-clause-once
fire_modules-requires-clause-once c q =
    subst (λ (due : List ℕ). listed q due ≤ 1) (sym c.as_slice.ensures.value) (due_once c.args.self.now c.requires.sound q)

pub returns-clause-sound : goal.returns-clause-sound
returns-clause-sound c =
    let e = c.in_ok-fire_modules.ensures in
    fired_sound c.args.self.now _ c.requires.sound
    (is_fired c.args.self.now _ c.as_slice.result.now c.as_slice.ensures.value e.states e.levels e.wheel e.places e.kept e.same c.clear.ensures.items refl refl refl)

pub returns-clause-fired : goal.returns-clause-fired
returns-clause-fired c n scope t ok during =
    let e = c.in_ok-fire_modules.ensures in
    fired c.args.self.now _ c.requires.sound
    (is_fired c.args.self.now _ c.as_slice.result.now c.as_slice.ensures.value e.states e.levels e.wheel e.places e.kept e.same c.clear.ensures.items refl refl refl)
    n ok scope t during

pub returns-clause-units : goal.returns-clause-units
returns-clause-units c = c.in_ok-fire_modules.ensures.places

pub returns-clause-places : goal.returns-clause-places
returns-clause-places c = c.in_ok-fire_modules.ensures.kept
