use Rattle.std.proofs.Common.{◌++◌, ◌∷◌, [], sym, ap, ◌∙◌}
use Rattle.mp_wave.specs.WaveChanges.{held_changes}
use Rattle.mp_wave.specs.declared.held.Held.{Held}
use Rattle.mp_wave.specs.declared.held.Held.TheVariants.{Pairs}
use Rattle.mp_wave.proofs.HeldLemmas.{more_held}
use Rattle.mp_wave.proofs.held.Held.push_longer.Goals as goal

pub returns-in_ok-self-in-Toggles-clause-held : goal.returns-in_ok-self-in-Toggles-clause-held
returns-in_ok-self-in-Toggles-clause-held c =
    let initial = c.args.initial in
    more_held initial c.args.time c.args.level c.args.self.now c.in_ok-self-in-Toggles.field-0 c.requires.held c.requires.later c.requires.other
    (c.in_ok-self-in-Toggles.ensures.value ∙ ap (λ (h : Held). held_changes initial h ++ (c.args.time, c.args.level) ∷ []) (sym c.in-Toggles.is))
    c.in_ok-self-in-Toggles.ensures.low

pub returns-in_ok-self-in-ShortPairs-clause-held : goal.returns-in_ok-self-in-ShortPairs-clause-held
returns-in_ok-self-in-ShortPairs-clause-held c =
    let initial = c.args.initial in
    more_held initial c.args.time c.args.level c.args.self.now c.in_ok-self-in-ShortPairs.field-0 c.requires.held c.requires.later c.requires.other
    (c.in_ok-self-in-ShortPairs.ensures.value initial ∙ ap (λ (h : Held). held_changes initial h ++ (c.args.time, c.args.level) ∷ []) (sym c.in-ShortPairs.is))
    (c.in_ok-self-in-ShortPairs.ensures.low initial)

pub returns-in_ok-push-in-Pairs-clause-held : goal.returns-in_ok-push-in-Pairs-clause-held
returns-in_ok-push-in-Pairs-clause-held c =
    let initial = c.args.initial in
    more_held initial c.args.time c.args.level c.args.self.now (Pairs c.push.new.self) c.requires.held c.requires.later c.requires.other
    (c.in_ok-push-in-Pairs.ensures.items ∙ ap (λ (h : Held). held_changes initial h ++ (c.args.time, c.args.level) ∷ []) (sym c.in-Pairs.is)) tt
