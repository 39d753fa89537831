use Rattle.std.proofs.Common.{◌≡◌, drop}
use Rattle.std.specs.List.{list_all}
use Rattle.mp_netlist.specs.Drivers.{driver}
use Rattle.mp_steady.specs.Periods.{is_again_by}
use Rattle.mp_steady.specs.WireSets.{numbers}
use Rattle.mp_steady.proofs.states.are_states_again.Given as goal

-- all wires do if the others do
abbrev pub invariant-loop-wire : goal.invariant-loop-wire
invariant-loop-wire l =
    list_all (λ w. is_again_by l.set.of.netlist.now (numbers l.set.wires.now) l.units (driver l.set.of.netlist.now w)) (numbers (drop l.wire-index l.set.wires.now))
    ≡ list_all (λ w. is_again_by l.set.of.netlist.now (numbers l.set.wires.now) l.units (driver l.set.of.netlist.now w)) (numbers l.set.wires.now)
