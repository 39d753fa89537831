use Rattle.std.proofs.Common.{◌≡◌, ◌-◌, take}
use Rattle.mp_model.specs.Waves.{level}
use Rattle.mp_steady.specs.Periods.{greatest, last_unit, repeats_from}
use Rattle.mp_steady.specs.WireSets.{numbers}
use Rattle.mp_steady.proofs.repeats.start.Given as goal

-- that of the wires so far
abbrev pub invariant-loop-wire : goal.invariant-loop-wire
invariant-loop-wire l =
    l.from ≡ greatest (λ w. repeats_from (level l.set.of.netlist.now w) l.units (last_unit l.set.of.netlist.now - l.units)) (numbers (take l.wire-index l.set.wires.now))
