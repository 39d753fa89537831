use Rattle.std.proofs.Common.{◌≢◌, ◌<◌, sym, subst}
use Rattle.mp_wave.specs.Waveform.{Waveform, last_from, last_time}
use Rattle.mp_wave.proofs.wave.Wave.push_change.Goals as goal

pub push-requires-clause-later : goal.push-requires-clause-later
push-requires-clause-later c = subst (λ (w : Waveform). last_time 0 w.changes < c.args.time) (sym c.self.view_is) c.requires.later

pub push-requires-clause-other : goal.push-requires-clause-other
push-requires-clause-other c = subst (λ (w : Waveform). last_from w.initial w.changes ≢ c.args.level) (sym c.self.view_is) c.requires.other
