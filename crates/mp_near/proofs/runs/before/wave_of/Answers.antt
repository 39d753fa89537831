use Rattle.std.proofs.Common.{ap, ◌∙◌}
use Rattle.mp_netlist.specs.Slots.{slot_at}
use Rattle.mp_redo.proofs.lemmas.parts.OkLemmas.{on_ok}
use Rattle.mp_near.proofs.lemmas.runs.RunLemmas.{wave_before}
use Rattle.mp_near.proofs.runs.before.wave_of.Goals as goal

pub returns : goal.returns
returns c =
    let w = c.index-wire.result.now in
    on_ok c.shared.result _ _ (λ wave is. is ∙ ap (λ waves. slot_at waves w) c.waves.ensures ∙ wave_before c.args.change.now c.requires.change c.args.small.now c.requires.small c.args.number w c.requires.low c.index-wire.ensures) c.shared.ensures
