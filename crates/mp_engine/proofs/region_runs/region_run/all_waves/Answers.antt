use Rattle.std.proofs.Common.{List, Option, sym, subst}
use Rattle.mp_wave.specs.Waveform.{Waveform}
use Rattle.mp_model.specs.Waves.{AreWavesOf}
use Rattle.mp_engine.proofs.region_runs.region_run.all_waves.Goals as goal

pub returns : goal.returns
returns c = subst (λ (xs : List (Option Waveform)). AreWavesOf c.args.region.now xs) (sym c.in_ok-waves.ensures) c.in_ok-found_waves.ensures
