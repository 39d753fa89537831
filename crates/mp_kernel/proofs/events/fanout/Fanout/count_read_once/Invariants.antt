use Rattle.std.proofs.Common.{◌≤◌}
use Rattle.mp_kernel.proofs.events.fanout.Fanout.count_read_once.Given as goal

abbrev pub invariant-loop-wire : goal.invariant-loop-wire
invariant-loop-wire l = l.count ≤ l.wire-index
