use Rattle.std.proofs.Common.{ap, ◌∙◌}
use Rattle.std.specs.BTreeMap.{is_at}
use Rattle.std.specs.List.{list_any}
use Rattle.mp_modules.specs.declared.finding_code.FindingCode.TheVariants.{MergeCollision}
use Rattle.mp_model.specs.declared.finding.Finding.{Finding}
use Rattle.mp_model.specs.Findings.{module_place}
use Rattle.mp_picture.specs.PlaceKeys.{numbered_order, place_key}
use Rattle.mp_picture.proofs.MarkedLemmas.{marked_more}
use Rattle.mp_picture.proofs.marked_columns.MarkedColumns.of.Goals as goal

abbrev none : Finding
none = record { time = 0; place = module_place 0; code = MergeCollision }

pub loop-finding-init : goal.loop-finding-init
loop-finding-init c = λ place j. ap (list_any (is_at (numbered_order (place_key place, j)))) c.new-marked.ensures.empty

pub loop-finding-preserved : goal.loop-finding-preserved
loop-finding-preserved c = λ place j.
    let fs = c.args.found.now in
    let i = c.loop-finding.finding-index in
    let updates = rw (c.place_key.ensures, c.column_of-column.ensures.value) at c.in_ok-insert.ensures.updates in
    updates.0 (place_key place, j) ∙ marked_more c.args.columns place j fs i none _ c.loop-finding-test.true (c.loop-finding.invariant place j)
