use Rattle.mp_report.proofs.Names.{List, map, sym, ◌∙◌, ap, Input, input_by, level, levels_at, InPiece}
use Rattle.mp_report.proofs.ModuleLemmas.{answer_over}
use Rattle.mp_report.proofs.modules.found_at_module.Goals as goal

pub returns : goal.returns
returns c =
    let n = c.args.netlist.now in
    let r = c.in-Some.record.now in
    let span = rw (c.start.ensures, c.built-part.ensures, c.horizon-end.ensures.value) at c.in_ok-piece.ensures in
    answer_over n c.horizon-end.ensures.form c.args.id.0 r (levels_at c.as_slice-2.result.now) c.in_ok-piece.piece (sym c.in-Some.ensures.value)
    (λ t low. ap (λ (ps : List InPiece). levels_at ps t) c.as_slice-2.ensures.value ∙ c.in_ok-inputs.ensures.levels t low ∙ ap (map (λ (i : Input). input_by n (level n) i t)) c.as_slice.ensures) span
