use Rattle.std.proofs.Common.{◌≡◌, map}
use Rattle.std.specs.List.{range_with_len}
use Rattle.mp_check.specs.Over.{input_delay_at, greatest}
use Rattle.mp_check.proofs.over.longest_input_delay.Given as goal

-- that of the ports so far
abbrev pub invariant-loop-number : goal.invariant-loop-number
invariant-loop-number l = l.longest ≡ greatest (map (input_delay_at l.end.at.netlist.now) (range_with_len 0 l.number))
