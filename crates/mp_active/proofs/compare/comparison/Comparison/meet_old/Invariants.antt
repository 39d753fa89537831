use Rattle.std.proofs.Common.{◌≡◌, length, take}
use Rattle.mp_kernel.specs.timers.TimerWheels.{coming}
use Rattle.mp_active.proofs.lemmas.compare.ComingLemmas.{HasMetSome}
use Rattle.mp_active.proofs.compare.comparison.Comparison.meet_old.Given as goal

abbrev pub invariant-loop-place : goal.invariant-loop-place
invariant-loop-place l = record { met : HasMetSome l.time (take l.place (coming l.fn.self.timers)) l.fn.self l.self; end : l.place-end ≡ length (coming l.fn.self.timers) }
