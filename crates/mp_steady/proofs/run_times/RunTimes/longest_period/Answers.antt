use Rattle.std.proofs.Common.{arith}
use Rattle.mp_steady.proofs.run_times.RunTimes.longest_period.Goals as goal

pub returns : goal.returns
returns c n wires are = omega (arith, c.saturating_sub.ensures, c.heard_from.ensures n wires are, are.last_set)
