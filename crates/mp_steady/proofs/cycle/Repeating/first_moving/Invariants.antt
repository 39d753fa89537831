use Rattle.std.proofs.Common.{◌≡◌, drop}
use Rattle.std.specs.List.{find}
use Rattle.mp_steady.specs.Cycles.{is_moving}
use Rattle.mp_steady.specs.WireSets.{numbers}
use Rattle.mp_steady.proofs.cycle.Repeating.first_moving.Given as goal

-- none of the wires so far has events
abbrev pub invariant-loop-wire : goal.invariant-loop-wire
invariant-loop-wire l =
    find (is_moving l.self.set.of.netlist.now l.self.units l.narrow) (numbers (drop l.wire-index l.self.set.wires.now)) ≡ find (is_moving l.self.set.of.netlist.now l.self.units l.narrow) (numbers l.self.set.wires.now)
