use Rattle.mp_wave.proofs.WaveChangesLemmas.{take_rest}
use Rattle.mp_wave.proofs.wave_changes.times_from.Goals as goal

pub returns : goal.returns
returns c = take_rest c.args.place c.args.times.now
