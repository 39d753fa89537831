use Rattle.std.proofs.Common.{ap, sym, ◌∙◌}
use Rattle.mp_wave.specs.Waveform.{last_from}
use Rattle.mp_wave.specs.WaveChanges.{changes_in}
use Rattle.mp_steady.proofs.WaveRepeatLemmas.{last_from_some, no_last}
use Rattle.mp_steady.proofs.wave_repeats.level_after.Goals as goal

pub returns-in-Some : goal.returns-in-Some
returns-in-Some c = last_from_some c.args.wave.now.initial (changes_in c.args.changes) c.in-Some.change c.in-Some.ensures.value

pub returns-in-None : goal.returns-in-None
returns-in-None c = c.initial.ensures.value ∙ sym (ap (last_from c.args.wave.now.initial) (no_last (changes_in c.args.changes) c.in-None.ensures.value))
