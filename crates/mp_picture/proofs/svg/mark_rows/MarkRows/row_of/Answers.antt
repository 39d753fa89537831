use Rattle.std.proofs.Common.{Bool, Some, None, length, ap, sym, ◌∙◌}
use Rattle.mp_picture.specs.declared.svg.mark_rows.MarkRow.{MarkRow}
use Rattle.mp_picture.specs.svg.MarkNumbers.{is_mark}
use Rattle.mp_picture.proofs.lemmas.svg.MarkLemmas.{before_first, rows_before}
use Rattle.mp_picture.proofs.svg.mark_rows.MarkRows.row_of.Goals as goal

pub returns-in-Some : goal.returns-in-Some
returns-in-Some c =
    let rows = c.self.inside.rows.items in
    let f = c.args.finding in
    let test : MarkRow → Bool = (λ (r : MarkRow). is_mark r.place r.code f.place f.code) in
    let value = before_first test rows (Some c.in-Some.row) (c.in-Some.ensures ∙ c.self.invariant f.place f.code) in
    let found = rows_before rows c.args.self.now f c.in-Some.row c.self.view_is value in
    record { value = found.0; within = found.1 }

pub returns-in-None : goal.returns-in-None
returns-in-None c =
    let rows = c.self.inside.rows.items in
    let f = c.args.finding in
    let test : MarkRow → Bool = (λ (r : MarkRow). is_mark r.place r.code f.place f.code) in
    let value = before_first test rows None (c.in-None.ensures ∙ c.self.invariant f.place f.code) in
    let size = ap (length {A = MarkRow}) (c.as_slice.ensures ∙ sym c.self.view_is) in
    let found = rows_before rows c.args.self.now f (length c.as_slice.result.now) c.self.view_is (size ∙ value) in
    record { value = found.0; within = found.1 }
