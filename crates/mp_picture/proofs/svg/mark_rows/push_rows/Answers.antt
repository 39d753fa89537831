use Rattle.std.proofs.Common.{◌++◌, ℕ, Option, ap, ◌∙◌, get_or}
use Rattle.mp_modules.specs.Findings.{by_number}
use Rattle.mp_modules.specs.declared.finding_code.FindingCode.TheVariants.{MergeCollision}
use Rattle.mp_picture.specs.svg.MarkNumbers.{number_of}
use Rattle.mp_picture.specs.svg.MarkRows.{row_if}
use Rattle.mp_picture.proofs.lemmas.svg.MarkLemmas.{codes_more}
use Rattle.mp_picture.proofs.svg.mark_rows.push_rows.Goals as goal

pub loop-code-preserved : goal.loop-code-preserved
loop-code-preserved c =
    let place = c.args.place in
    let codes = c.by_number-code-items.result in
    let i = c.loop-code.code-index in
    codes_more (λ code. row_if place code (number_of c.args.lasts.now place code)) by_number codes i MergeCollision c.args.rows.now.items c.loop-code.rows.items c.push_row.new.rows.items c.loop-code-test.true
    c.by_number-code-items.ensures c.loop-code.invariant
    (c.in_ok-push_row.ensures ∙ ap (λ (o : Option ℕ). c.loop-code.rows.items ++ row_if place (get_or codes i MergeCollision) o) c.get.ensures)
