use Rattle.std.proofs.Common.{List, map, sym, ◌∙◌, ap}
use Rattle.mp_records.specs.declared.ports.Input.{Input}
use Rattle.mp_model.specs.Levels.{input_by}
use Rattle.mp_model.specs.Waves.{level}
use Rattle.mp_model.specs.response.Pieces.{levels_at}
use Rattle.mp_model.specs.declared.response.in_piece.InPiece.{InPiece}
use Rattle.mp_model.proofs.BuiltLemmas.{width_of_module}
use Rattle.mp_steady.proofs.StateLemmas.{state_found}
use Rattle.mp_steady.proofs.states.state_at.Goals as goal

pub built-part-requires-clause-width : goal.built-part-requires-clause-width
built-part-requires-clause-width c = width_of_module c.args.set.of.netlist.now c.horizon-horizon.ensures.form c.in-Some.record.now c.in-Some.ensures.form

pub returns : goal.returns
returns c =
    let n = c.args.set.of.netlist.now in
    let r = c.in-Some.record.now in
    let span = rw (c.start.ensures, c.built-part.ensures) at c.in_ok-piece.ensures in
    state_found n c.horizon-horizon.ensures.form c.args.id.0 r (sym c.in-Some.ensures.value) (levels_at c.as_slice-2.result.now) c.args.time c.in_ok-piece.piece c.first_heard-from.result c.first_heard-from.ensures
    (λ t low high. ap (λ (ps : List InPiece). levels_at ps t) c.as_slice-2.ensures.value ∙ c.in_ok-heard.ensures.levels t low high ∙ ap (map (λ (i : Input). input_by n (level n) i t)) c.as_slice.ensures) span
