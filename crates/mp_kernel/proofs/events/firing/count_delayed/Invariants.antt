use Rattle.std.proofs.Common.{◌≡◌}
use Rattle.mp_kernel.proofs.events.firing.count_delayed.Given as goal

abbrev pub invariant-loop-place : goal.invariant-loop-place
invariant-loop-place l = l.count ≡ l.place-index
