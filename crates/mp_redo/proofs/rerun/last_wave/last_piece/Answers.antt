use Rattle.std.proofs.Common.{◌+◌, ◌-◌, List, map, ap, sym, ◌∙◌, arith}
use Rattle.mp_wave.specs.Waveform.{level_of}
use Rattle.mp_records.specs.declared.ports.Input.{Input}
use Rattle.mp_model.proofs.BuiltLemmas.{width_of_module}
use Rattle.mp_model.specs.declared.response.in_piece.InPiece.{InPiece}
use Rattle.mp_model.specs.response.Pieces.{levels_at}
use Rattle.mp_depend.proofs.lemmas.work.StayLemmas.{built_same}
use Rattle.mp_active.specs.compare.Comparing.{old_wave}
use Rattle.mp_redo.proofs.lemmas.rerun.LastLemmas.{answered_span}
use Rattle.mp_redo.proofs.rerun.last_wave.last_piece.Goals as goal

pub built-part-requires-clause-width : goal.built-part-requires-clause-width
built-part-requires-clause-width c =
    let ok = c.requires.change.form in
    width_of_module c.args.change.now.new.now ok c.args.found.now (ok.modules_ok c.args.id.0 c.args.found.now c.requires.kept.after)

pub built-part-requires-clause-params : goal.built-part-requires-clause-params
built-part-requires-clause-params c = (c.requires.change.form.modules_ok c.args.id.0 c.args.found.now c.requires.kept.after).params

pub returns : goal.returns
returns c =
    let old = c.args.change.now.old.now in
    let new = c.args.change.now.new.now in
    let run = c.args.change.now.run.now in
    let is = c.requires.change in
    let same = is.revision.horizon in
    let below = c.requires.below in
    answered_span old is.old_form run is.run c.args.id.0 c.args.first (c.args.now + 1) c.args.found.now c.built-part.result (levels_at c.as_slice-2.result.now) c.in_ok-memory.memory c.in_ok-piece.piece c.requires.kept.before
    (c.built-part.ensures ∙ sym (built_same old new is.old_form is.form is.revision c.args.id.0 c.args.found.now c.requires.kept)) (omega (arith, same, below)) c.in_ok-memory.ensures
    (λ t from before.
    ap (λ (ps : List InPiece). levels_at ps t) c.as_slice-2.ensures.value ∙ c.in_ok-pieces.ensures.levels t from before
    ∙ ap (map (λ (i : Input). level_of (old_wave run i.wire.0) (t - i.delay))) c.as_slice.ensures)
    c.in_ok-piece.ensures
