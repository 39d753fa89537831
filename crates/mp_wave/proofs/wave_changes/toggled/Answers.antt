use Rattle.std.proofs.Common.{◌≡◌, ◌+◌, ◌/◌, ap, sym, ◌∙◌, arith, suc}
use Rattle.mp_wave.specs.ToggleWaves.{level_after}
use Rattle.mp_wave.proofs.WaveChangesLemmas.{even, odd}
use Rattle.mp_wave.proofs.wave_changes.toggled.Goals as goal

pub returns-then-toggles-eq0 : goal.returns-then-toggles-eq0
returns-then-toggles-eq0 c =
    let half = c.args.toggles / 2 in
    let is : c.args.toggles ≡ half + half = omega (arith, c.if-toggles-eq0.true) in
    sym (ap (level_after c.args.level) is ∙ even c.args.level half c.requires)

pub returns-else-toggles-eq0 : goal.returns-else-toggles-eq0
returns-else-toggles-eq0 c =
    let half = c.args.toggles / 2 in
    let is : c.args.toggles ≡ suc (half + half) = omega (arith, c.if-toggles-eq0.false) in
    sym (ap (level_after c.args.level) is ∙ odd c.args.level half c.requires)
