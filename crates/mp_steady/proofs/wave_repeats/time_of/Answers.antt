use Rattle.std.proofs.Common.{ap, sym}
use Rattle.mp_wave.specs.Waveform.{last_time}
use Rattle.mp_wave.specs.WaveChanges.{changes_in}
use Rattle.mp_steady.proofs.WaveRepeatLemmas.{last_time_some, no_last}
use Rattle.mp_steady.proofs.wave_repeats.time_of.Goals as goal

pub returns-in-Some : goal.returns-in-Some
returns-in-Some c = last_time_some 0 (changes_in c.args.changes) c.in-Some.change c.in-Some.ensures.value

pub returns-in-None : goal.returns-in-None
returns-in-None c = sym (ap (last_time 0) (no_last (changes_in c.args.changes) c.in-None.ensures.value))
