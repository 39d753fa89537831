use Rattle.std.proofs.Common.{length, refl, sym, ap, subst}
use Rattle.mp_wave.specs.Waveform.{Waveform}
use Rattle.mp_simulation.specs.bits.Simulations.{AreSoundCopies}
use Rattle.mp_simulation.proofs.lemmas.bits.CopyLemmas.{behind_kept}
use Rattle.mp_simulation.proofs.bits.simulation.Simulation.fire.Goals as goal

pub returns-clause-sound : goal.returns-clause-sound
returns-clause-sound c = record {
  simulator = c.in_ok-fire.ensures.sound;
  copies = subst (λ k. AreSoundCopies k c.args.self.now.copies) (sym (ap length c.in_ok-fire.ensures.same)) c.requires.copies;
  behind = behind_kept c.args.self.now.copies.next.items _ _ _ c.requires.behind refl (ap (length {A = Waveform}) c.in_ok-fire.ensures.waves);
}

pub returns-clause-fired : goal.returns-clause-fired
returns-clause-fired c n scope before t ok heard = record {
  simulator = c.in_ok-fire.ensures.fired n scope t ok heard.simulator;
  chained = heard.chained;
  copies = heard.copies;
}

pub returns-clause-waves : goal.returns-clause-waves
returns-clause-waves c = ap (length {A = Waveform}) c.in_ok-fire.ensures.waves
