use Rattle.std.proofs.Common.{arith}
use Rattle.mp_steady.proofs.run_times.RunTimes.told_until.Goals as goal

pub returns : goal.returns
returns c n wires are = omega (arith, c.saturating_sub.ensures, are.end, are.longest_delay)
