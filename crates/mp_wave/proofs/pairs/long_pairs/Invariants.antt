use Rattle.std.proofs.Common.{◌≡◌, take}
use Rattle.mp_wave.proofs.pairs.long_pairs.Given as goal

-- the changes so far are listed
abbrev pub invariant-loop-time : goal.invariant-loop-time
invariant-loop-time l = l.pairs.items ≡ take l.time-index l.short
