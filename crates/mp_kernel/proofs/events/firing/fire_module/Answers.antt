use Rattle.std.proofs.Common.{Result, Ok, Err, OnOk, ap, ◌∙◌}
use Rattle.mp_modules.specs.declared.automata.transition.Transition.{Transition}
use Rattle.mp_kernel.proofs.lemmas.events.AddingLemmas.{found}
use Rattle.mp_kernel.proofs.lemmas.events.FiringLemmas.{flips_one}
use Rattle.mp_kernel.proofs.events.firing.fire_module.Goals as goal

on_ok : {T E : Type 0} (r : Result T E) (P : Type 0) → P → OnOk r P
on_ok (Ok x) P p = p
on_ok (Err e) P p = tt

pub returns-clause-levels : goal.returns-clause-levels
returns-clause-levels c =
    on_ok c.schedule_toggles.result _ (λ s is.
    flips_one c.args.levels.now.items c.args.place c.of-transition.result.flips c.index_mut-2.result.now c.flip.new.self s c.requires.levels c.index_mut-2.ensures.value c.flip.ensures
    (ap (λ (t : Transition). t.flips) (c.of-transition.ensures s.automaton s.phase s.events
    (found c.args.states.now.items c.args.place c.index.result.now c.requires.state c.index.ensures ∙ is))))
