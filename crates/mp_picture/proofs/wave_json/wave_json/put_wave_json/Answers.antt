use Rattle.std.proofs.Common.{refl}
use Rattle.mp_streams.proofs.OutLemmas.{puts_as, puts_then, puts_sooner}
use Rattle.mp_streams.specs.declared.write_error.WriteError.TheVariants.{WriteFailed}
use Rattle.mp_picture.specs.wave_json.WaveJson.{wave_json}
use Rattle.mp_picture.proofs.PutLemmas.{puts_ok}
use Rattle.mp_picture.proofs.wave_json.wave_json.put_wave_json.Goals as goal

pub returns-in_err-put_text : goal.returns-in_err-put_text
unfolding wave_json
returns-in_err-put_text g c = puts_as _ WriteFailed c.from_residual.ensures.1 refl (puts_sooner _ c.in_err-put_text.ensures)

pub returns-in_err-put_signals : goal.returns-in_err-put_signals
unfolding wave_json
returns-in_err-put_signals g c =
    puts_then c.in_ok-put_text.ensures
    (puts_as _ c.in_err-put_signals.field-0.0 c.from_residual-in_err-put_signals.ensures.1 refl (puts_sooner _ c.in_err-put_signals.ensures))

pub returns-in_err-put_end : goal.returns-in_err-put_end
unfolding wave_json
returns-in_err-put_end g c =
    puts_then c.in_ok-put_text.ensures
    (puts_then c.in_ok-put_signals.ensures (puts_as _ WriteFailed c.from_residual-in_err-put_end.ensures.1 refl c.in_err-put_end.ensures))

pub returns : goal.returns
unfolding wave_json
returns g c = puts_then c.in_ok-put_text.ensures (puts_then c.in_ok-put_signals.ensures (puts_ok c.in_ok-put_end.ensures))
