use Rattle.std.proofs.Common.{◌++◌, List, ap, ◌∙◌}
use Rattle.std.specs.List.{flat_map}
use Rattle.mp_modules.specs.Findings.{by_number}
use Rattle.mp_model.specs.Findings.{module_place}
use Rattle.mp_picture.specs.declared.svg.mark_rows.MarkRow.{MarkRow}
use Rattle.mp_picture.specs.svg.MarkNumbers.{number_of}
use Rattle.mp_picture.specs.svg.MarkRows.{row_if}
use Rattle.std.proofs.Common.{get_or}
use Rattle.mp_picture.proofs.lemmas.svg.MarkLemmas.{rows_more}
use Rattle.mp_picture.proofs.svg.mark_rows.mark_rows.Goals as goal

pub loop-place-preserved : goal.loop-place-preserved
loop-place-preserved c =
    let ps = c.args.places.now in
    let i = c.loop-place.place-index in
    let p = get_or ps i (module_place 0) in
    let lasts = c.in_ok-lasts.lasts in
    c.in_ok-push_rows.ensures
    ∙ ap (λ (rs : List MarkRow). rs ++ flat_map (λ code. row_if p code (number_of lasts p code)) by_number) c.loop-place.invariant
    ∙ rows_more c.args.columns c.args.found.now ps i (module_place 0) (number_of lasts) c.loop-place-test.true c.in_ok-lasts.ensures
