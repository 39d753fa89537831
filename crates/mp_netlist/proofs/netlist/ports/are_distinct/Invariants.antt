use Rattle.std.proofs.Common.{◌≡◌, drop}
use Rattle.mp_netlist.specs.Edits.{are_distinct, driven_names}
use Rattle.mp_netlist.proofs.netlist.ports.are_distinct.Given as goal

-- what is left decides
abbrev pub invariant-loop-port : goal.invariant-loop-port
invariant-loop-port l = are_distinct (driven_names (drop l.port l.outputs)) ≡ are_distinct (driven_names l.outputs)
