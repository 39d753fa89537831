use Rattle.std.proofs.Common.{◌≡◌, drop, fold}
use Rattle.mp_modules.specs.Delays.{lesser}
use Rattle.mp_netlist.specs.Delays.{delays_of}
use Rattle.mp_netlist.proofs.least_delay.least_in.Given as goal

-- what is left decides
abbrev pub invariant-loop-output : goal.invariant-loop-output
invariant-loop-output l =
    fold lesser l.least (delays_of (drop l.output-index l.outputs)) ≡ fold lesser l.fn.known (delays_of l.outputs)
