use Rattle.std.proofs.Common.{◌≡◌, ◌+◌, drop}
use Rattle.mp_netlist.specs.Edits.{after_each}
use Rattle.mp_netlist.proofs.netlist.Netlist.make_each.Given as goal

-- what is left to be made leads to the same
abbrev pub invariant-loop-index : goal.invariant-loop-index
invariant-loop-index l = after_each (l.index + 1) l.self (drop l.index l.batch) ≡ after_each 1 l.fn.self l.batch
