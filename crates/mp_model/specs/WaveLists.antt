-- The waves that are listed, in place or in blocks of their own.
use Rattle.std.specs.Prelude.{List, Option, map, option_map}
use Rattle.std.specs.Arc.{arc_value}
use Rattle.mp_wave.specs.Waveform.{Waveform}
use Rattle.mp_model.specs.declared.wave_list.WaveList.{WaveList}
use Rattle.mp_model.specs.declared.wave_list.WaveList.TheVariants.{InPlace, Shared, Pieces}

abbrev pub listed_waves : WaveList → List (Option Waveform)
listed_waves (InPlace list) = list.items
listed_waves (Shared list) = map (option_map arc_value) list.items
listed_waves (Pieces list) = list
