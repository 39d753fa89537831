use Rattle.std.proofs.Common.{◌≡◌, ◌++◌, take}
use Rattle.mp_wave.specs.ToggleWaves.{times_of}
use Rattle.mp_wave.proofs.toggle_wave.push_long_times.Given as goal

-- the times before are listed
abbrev pub invariant-loop-pair : goal.invariant-loop-pair
invariant-loop-pair l = l.times.items ≡ l.initial.times.items ++ times_of (take l.pair-index l.pairs)
