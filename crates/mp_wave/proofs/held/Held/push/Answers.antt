use Rattle.std.proofs.Common.{◌≢◌, ◌≤◌, ◌++◌, ◌∷◌, [], sym, ap, ◌∙◌, subst}
use Rattle.mp_wave.specs.Waveform.{last_from}
use Rattle.mp_wave.specs.WaveChanges.{held_changes, IsLow}
use Rattle.mp_wave.specs.declared.held.Held.{Held}
use Rattle.mp_wave.specs.declared.held.Held.TheVariants.{Toggles, ShortPairs, Pairs}
use Rattle.mp_wave.proofs.HeldLemmas.{toggle_more, more_held}
use Rattle.mp_wave.proofs.held.Held.push.Goals as goal

pub returns-in_ok-push-in-ShortPairs-clause-held : goal.returns-in_ok-push-in-ShortPairs-clause-held
returns-in_ok-push-in-ShortPairs-clause-held c =
    let initial = c.args.initial in
    more_held initial c.args.time c.args.level c.args.self.now (ShortPairs c.push.new.self) c.requires.held c.requires.later c.requires.other
    (c.in_ok-push-in-ShortPairs.ensures.items ∙ ap (λ (h : Held). held_changes initial h ++ (c.args.time, c.args.level) ∷ []) (sym c.in-ShortPairs.is)) tt

pub returns-in_ok-push-in-Toggles-clause-ok : goal.returns-in_ok-push-in-Toggles-clause-ok
returns-in_ok-push-in-Toggles-clause-ok c =
    let initial = c.args.initial in
    let low : initial ≤ 1 = subst (IsLow initial) c.in-Toggles.is c.requires.held.low in
    let other = subst (λ (h : Held). last_from initial (held_changes initial h) ≢ c.args.level) c.in-Toggles.is c.requires.other in
    toggle_more initial c.args.time c.args.level c.in-Toggles.times.items c.push-in-Toggles.new.self.items low c.if-level-le1.true other c.in_ok-push-in-Toggles.ensures.items
    ∙ ap (λ (h : Held). held_changes initial h ++ (c.args.time, c.args.level) ∷ []) (sym c.in-Toggles.is)

pub returns-in_ok-push-in-Toggles-clause-held : goal.returns-in_ok-push-in-Toggles-clause-held
returns-in_ok-push-in-Toggles-clause-held c =
    let low : c.args.initial ≤ 1 = subst (IsLow c.args.initial) c.in-Toggles.is c.requires.held.low in
    more_held c.args.initial c.args.time c.args.level c.args.self.now (Toggles c.push-in-Toggles.new.self) c.requires.held c.requires.later c.requires.other
    (returns-in_ok-push-in-Toggles-clause-ok c) low

pub returns-in_ok-push-in-Pairs-clause-held : goal.returns-in_ok-push-in-Pairs-clause-held
returns-in_ok-push-in-Pairs-clause-held c =
    let initial = c.args.initial in
    more_held initial c.args.time c.args.level c.args.self.now (Pairs c.push-in-Pairs.new.self) c.requires.held c.requires.later c.requires.other
    (c.in_ok-push-in-Pairs.ensures.items ∙ ap (λ (h : Held). held_changes initial h ++ (c.args.time, c.args.level) ∷ []) (sym c.in-Pairs.is)) tt
