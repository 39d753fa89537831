-- What holds of every version.
use Rattle.std.specs.Prelude.{◌≡◌, List, Option, Ok}
use Rattle.mp_wave.specs.Waveform.{Waveform}
use Rattle.mp_netlist.specs.Circuit.{Circuit}
use Rattle.mp_netlist.specs.Replays.{replay}
use Rattle.mp_model.specs.Waves.{AreWavesOf}
use Rattle.mp_version.specs.Stories.{Story}

-- the edits lead from the base to this netlist, none of them refused, and these are its waves
pub record IsVersion (story : Story) (now : Circuit) (waves : List (Option Waveform)) : Type 0 where
  pub replayed : replay story.base story.edits ≡ Ok now
  pub waves_are : AreWavesOf now waves
