use Rattle.std.proofs.Common.{◌<◌, subst, sym}
use Rattle.mp_wave.specs.Waveform.{Waveform, last_time}
use Rattle.mp_wave.specs.ToggleWaves.{toggle_changes}
use Rattle.mp_wave.proofs.ToggleWaveLemmas.{toggled, one_later}
use Rattle.mp_wave.proofs.toggle_wave.ToggleWave.toggle.Goals as goal

pub invariant_of-self-2 : goal.invariant_of-self-2
invariant_of-self-2 c =
    let later : last_time 0 (toggle_changes c.self.inside.initial c.self.inside.times.items) < c.args.time = subst (λ (w : Waveform). last_time 0 w.changes < c.args.time) (sym c.self.view_is) c.requires in
    (c.self.invariant.0, rw c.in_ok-push_time.ensures.ok (one_later 0 c.self.inside.initial c.args.time c.self.inside.times.items c.self.invariant.1 later))

pub returns-clause-ok : goal.returns-clause-ok
returns-clause-ok c =
    toggled c.self.inside.initial c.args.time c.self.inside.times.items c.push_time.new.times.items c.args.self.now c.self.view_is c.in_ok-push_time.ensures.ok
