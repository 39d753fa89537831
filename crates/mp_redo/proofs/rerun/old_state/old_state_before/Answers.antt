use Rattle.std.proofs.Common.{◌≡◌, ◌-◌, ◌<◌, List, map, ap, sym, ◌∙◌, arith}
use Rattle.mp_wave.specs.Waveform.{level_of}
use Rattle.mp_records.specs.declared.ports.Input.{Input}
use Rattle.mp_partition.specs.runs.Checkpoints.{state_before}
use Rattle.mp_model.specs.declared.response.in_piece.InPiece.{InPiece}
use Rattle.mp_model.specs.response.Pieces.{levels_at}
use Rattle.mp_depend.specs.work.Work.{block_of}
use Rattle.mp_depend.proofs.lemmas.work.StayLemmas.{built_same}
use Rattle.mp_active.specs.compare.Comparing.{old_wave}
use Rattle.mp_redo.proofs.lemmas.rerun.OldStateLemmas.{block_state, answered_state}
use Rattle.mp_redo.proofs.rerun.old_state.old_state_before.Goals as goal

pub returns-then-block-time : goal.returns-then-block-time
returns-then-block-time c =
    let change = c.args.change.now in
    let old = change.old.now in
    let is = c.requires.change in
    let block : c.block_of-block.result ≡ block_of old.horizon c.args.time = c.block_of-block.ensures ∙ ap (λ h. block_of h c.args.time) (c.horizon.ensures.value ∙ is.revision.horizon) in
    let below = c.requires.below in
    let same = is.revision.horizon in
    c.old_state-memory.ensures ∙ block_state old is.old_form change.run.now is.run c.args.id.0 c.block_of-block.result c.args.time c.args.found.now c.requires.kept.before block (omega arith)
    ∙ ap (state_before old c.args.id.0 c.args.found.now) c.if-block-time.true

pub returns : goal.returns
returns c =
    let change = c.args.change.now in
    let old = change.old.now in
    let new = change.new.now in
    let run = change.run.now in
    let is = c.requires.change in
    let id = c.args.id.0 in
    let found = c.args.found.now in
    let kept = c.requires.kept in
    let b = c.block_of-block.result in
    let time = c.args.time in
    let block : c.block_of-block.result ≡ block_of old.horizon c.args.time = c.block_of-block.ensures ∙ ap (λ h. block_of h c.args.time) (c.horizon.ensures.value ∙ is.revision.horizon) in
    let below = c.requires.below in
    let same = is.revision.horizon in
    let low : c.args.time < old.horizon = omega arith in
    let other = c.if-block-time.false in
    let rise : c.block_of-block.result < c.args.time = omega arith in
    answered_state old is.old_form run is.run id b time found c.args.part.now (levels_at c.as_slice-2.result.now) c.old_state-memory.result c.in_ok-piece.piece kept.before
    (c.requires.part ∙ sym (built_same old new is.old_form is.form is.revision id found kept)) rise (omega arith)
    (c.old_state-memory.ensures ∙ block_state old is.old_form run is.run id b time found kept.before block low)
    (λ t from before.
    ap (λ (ps : List InPiece). levels_at ps t) c.as_slice-2.ensures.value ∙ c.in_ok-pieces.ensures.levels t from before
    ∙ ap (map (λ (i : Input). level_of (old_wave run i.wire.0) (t - i.delay))) c.as_slice.ensures)
    c.in_ok-piece.ensures
