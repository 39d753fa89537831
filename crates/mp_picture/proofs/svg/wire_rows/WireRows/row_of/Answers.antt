use Rattle.std.proofs.Common.{◌==◌, List, Some, None, length, ap, sym, ◌∙◌}
use Rattle.mp_records.specs.declared.ids.WireId.{WireId}
use Rattle.mp_picture.specs.svg.FoundGroups.{wire_among}
use Rattle.mp_picture.proofs.lemmas.svg.MarkLemmas.{before_first}
use Rattle.mp_picture.proofs.svg.wire_rows.WireRows.row_of.Goals as goal

pub returns-in-Some : goal.returns-in-Some
returns-in-Some c =
    let wires = c.self.inside.wires.items in
    let w = c.args.wire in
    before_first (λ (v : WireId). v.0 == w.0) wires (Some c.in-Some.row.now) (c.in-Some.ensures.value ∙ c.self.invariant.firsts_are w.0)
    ∙ ap (λ (vs : List WireId). wire_among vs w) c.self.view_is

pub returns-in-None : goal.returns-in-None
returns-in-None c =
    let wires = c.self.inside.wires.items in
    let w = c.args.wire in
    c.len.ensures
    ∙ ap (length {A = WireId}) (sym c.self.view_is)
    ∙ before_first (λ (v : WireId). v.0 == w.0) wires None (c.in-None.ensures.value ∙ c.self.invariant.firsts_are w.0)
    ∙ ap (λ (vs : List WireId). wire_among vs w) c.self.view_is
