use Rattle.std.proofs.Common.{ap, ◌∙◌}
use Rattle.mp_netlist.specs.Slots.{slot_at}
use Rattle.mp_redo.proofs.lemmas.parts.OkLemmas.{on_ok}
use Rattle.mp_redo.proofs.lemmas.parts.WholeLemmas.{wave_there}
use Rattle.mp_redo.proofs.parts.whole_run.whole_wave.Goals as goal

pub returns : goal.returns
returns c =
    let change = c.args.change.now in
    let w = c.args.wire.0 in
    let found = c.index-parts-part.result in
    on_ok c.shared.result _ _ (λ wave is. is ∙ ap (λ waves. slot_at waves w) c.waves.ensures ∙ wave_there change c.requires.change c.args.parts.now c.requires.parts found c.part_of_wire-part.result w c.part_of_wire-part.ensures.low c.part_of_wire-part.ensures.within) c.shared.ensures
