use Rattle.std.proofs.Common.{arith}
use Rattle.mp_steady.proofs.run_times.RunTimes.heard_from.Goals as goal

pub returns : goal.returns
returns c n wires are = omega (arith, c.saturating_sub.ensures, c.told_until.ensures n wires are, are.longest_input_delay)
