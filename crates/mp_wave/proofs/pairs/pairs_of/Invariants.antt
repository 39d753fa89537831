use Rattle.std.proofs.Common.{◌≡◌, ◌++◌, drop}
use Rattle.mp_wave.specs.ToggleWaves.{toggle_changes}
use Rattle.mp_wave.proofs.pairs.pairs_of.Given as goal

-- with the toggles to come those listed are all
abbrev pub invariant-loop-time : goal.invariant-loop-time
invariant-loop-time l = l.pairs.items ++ toggle_changes l.present (drop l.time-index l.times) ≡ toggle_changes l.level l.times
