use Rattle.std.proofs.Common.{◌≡◌, filter, is_some}
use Rattle.std.specs.List.{range_with_len}
use Rattle.mp_netlist.specs.Circuit.{wire_at}
use Rattle.mp_steady.specs.WireSets.{numbers}
use Rattle.mp_steady.proofs.wire_set.all_wires.Given as goal

-- those of the numbers so far
abbrev pub invariant-loop-number : goal.invariant-loop-number
invariant-loop-number l = numbers l.found.items ≡ filter (λ w. is_some (wire_at l.netlist w)) (range_with_len 0 l.number)
