use Rattle.std.proofs.Common.{true, false, ap, ◌∙◌}
use Rattle.mp_netlist.specs.Slots.{slot_at}
use Rattle.mp_redo.specs.parts.Changes.{homes_in}
use Rattle.mp_redo.proofs.lemmas.parts.OkLemmas.{on_ok}
use Rattle.mp_redo.proofs.lemmas.parts.DrivenLemmas.{tells_of}
use Rattle.mp_redo.proofs.lemmas.parts.OldPartLemmas.{wave_elsewhere, wave_within}
use Rattle.mp_redo.proofs.parts.part_run.part_wave.Goals as goal

pub returns-then-is_driven_elsewhere : goal.returns-then-is_driven_elsewhere
returns-then-is_driven_elsewhere c =
    let change = c.args.change.now in
    let k = c.args.part in
    let w = c.args.wire.0 in
    let tells = tells_of change.partition.now.old_drivers.items c.as_slice.result.now (homes_in change) c.as_slice-homes.result.now k w c.is_driven_elsewhere.result true c.as_slice.ensures.value c.as_slice-homes.ensures.value c.if-is_driven_elsewhere.true c.is_driven_elsewhere.ensures in
    on_ok c.initial_wave.result _ _ (λ wave is. is ∙ wave_elsewhere change c.requires.change k w tells) c.initial_wave.ensures

pub returns : goal.returns
returns c =
    let change = c.args.change.now in
    let k = c.args.part in
    let w = c.args.wire.0 in
    let tells = tells_of change.partition.now.old_drivers.items c.as_slice.result.now (homes_in change) c.as_slice-homes.result.now k w c.is_driven_elsewhere.result false c.as_slice.ensures.value c.as_slice-homes.ensures.value c.if-is_driven_elsewhere.false c.is_driven_elsewhere.ensures in
    on_ok c.shared.result _ _ (λ wave is. is ∙ ap (λ waves. slot_at waves w) c.waves.ensures ∙ wave_within change c.requires.change k w tells) c.shared.ensures
