use Rattle.std.proofs.Common.{ℕ, Bool, Some, Option, cond, sym, ap, ◌∙◌}
use Rattle.mp_modules.specs.declared.finding_code.FindingCode.TheVariants.{MergeCollision}
use Rattle.mp_model.specs.declared.finding.Finding.{Finding}
use Rattle.mp_model.specs.Findings.{module_place}
use Rattle.std.proofs.Common.{get_or}
use Rattle.mp_picture.specs.Columns.{column_of}
use Rattle.mp_picture.specs.svg.MarkNumbers.{number_of}
use Rattle.mp_picture.specs.svg.MarkRows.{is_at}
use Rattle.mp_picture.proofs.lemmas.svg.MarkLemmas.{last_more, mark_is}
use Rattle.mp_picture.proofs.svg.mark_rows.lasts_of.Goals as goal

abbrev none : Finding
none = record { time = 0; place = module_place 0; code = MergeCollision }

pub loop-finding-preserved : goal.loop-finding-preserved
loop-finding-preserved c = λ place code.
    let cs = c.args.columns in
    let fs = c.args.found.now in
    let i = c.loop-finding.finding-index in
    let f : Finding = get_or fs i none in
    let before = number_of c.loop-finding.lasts place code in
    c.in_ok-set.ensures place code
    ∙ ap (λ (b : Bool). cond b (Some c.column_of-column.result) before) (mark_is f place code)
    ∙ ap (λ (k : ℕ). cond (is_at place code f) (Some k) before) c.column_of-column.ensures.value
    ∙ ap (λ (o : Option ℕ). cond (is_at place code f) (Some (column_of cs f.time)) o) (c.loop-finding.invariant place code)
    ∙ sym (last_more cs place code fs i none c.loop-finding-test.true)
