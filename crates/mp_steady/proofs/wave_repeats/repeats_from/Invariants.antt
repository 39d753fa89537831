use Rattle.std.proofs.Common.{◌≡◌, ◌+◌, ◌≤◌}
use Rattle.std.specs.Prelude.{max}
use Rattle.mp_wave.specs.Waveform.{earlier_than, level_of}
use Rattle.mp_wave.specs.WaveChanges.{changes_in}
use Rattle.mp_steady.specs.Periods.{repeats_from}
use Rattle.mp_steady.proofs.wave_repeats.repeats_from.Given as goal

-- the changes up to a time, and up to the time so many units later; behind that time the level is the one so many units later
abbrev pub invariant-loop-late : goal.invariant-loop-late
invariant-loop-late l = record {
  late : changes_in l.late ≡ earlier_than (l.last + l.units + 1) l.wave.changes;
  early : changes_in l.early ≡ earlier_than (l.last + 1) l.wave.changes;
  low : l.last ≤ l.upto;
  rest : max l.least (repeats_from (level_of l.wave) l.units l.last) ≡ max l.least (repeats_from (level_of l.wave) l.units l.upto);
}

abbrev pub decreases-loop-late : goal.decreases-loop-late
decreases-loop-late l = l.last
