use Rattle.std.proofs.Common.{◌≡◌, ◌-◌, sym, subst, ◌∙◌}
use Rattle.std.proofs.lemmas.Result.{IfOk-weaker}
use Rattle.mp_wave.specs.Waveform.{level_of}
use Rattle.mp_wave.proofs.PrefixLemmas.{cut_levels}
use Rattle.mp_model.specs.declared.response.in_piece.InPiece.{InPiece}
use Rattle.mp_model.specs.response.Pieces.{later_by, piece_level}
use Rattle.mp_model.proofs.lemmas.response.LateLemmas.{late_level_of, IsWaveform-later_by}
use Rattle.mp_redo.proofs.rerun.old_state.cut_wave.Goals as goal

pub returns : goal.returns
returns c =
    let wave = c.args.wave.now in
    let delay = c.args.delay in
    IfOk-weaker c.cut_delayed.result _ _
    (λ piece e t low high. subst (λ (p : InPiece). piece_level p t ≡ level_of wave (t - delay)) (sym e)
    (cut_levels (later_by delay wave) c.args.from c.args.to t (IsWaveform-later_by delay wave c.initial-initial.ensures.form) low high
    ∙ late_level_of delay t wave c.initial-initial.ensures.form))
    c.cut_delayed.ensures.value
