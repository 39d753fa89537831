use Rattle.std.proofs.Common.{ap, ◌∙◌}
use Rattle.mp_records.specs.declared.ids.WireId.{WireId}
use Rattle.mp_steady.specs.Cycles.{is_moving, last_of}
use Rattle.mp_steady.proofs.CycleLemmas.{found_here, found_later, found_nowhere}
use Rattle.mp_steady.proofs.cycle.Repeating.first_moving.Goals as goal

abbrev none : WireId
none = record { 0 = 0 }

pub returns-in-Some-clause-some : goal.returns-in-Some-clause-some
returns-in-Some-clause-some c =
    let n = c.args.self.set.of.netlist.now in
    ap (last_of n)
    (found_here (is_moving n c.args.self.units c.args.narrow) c.args.self.set.wires.now c.loop-wire.wire-index none c.loop-wire-test.true c.loop-wire.invariant c.in-Some.ensures.moving) ∙ c.in-Some.ensures.some

pub loop-wire-preserved : goal.loop-wire-preserved
loop-wire-preserved c =
    let n = c.args.self.set.of.netlist.now in
    found_later (is_moving n c.args.self.units c.args.narrow) c.args.self.set.wires.now c.loop-wire.wire-index none c.loop-wire-test.true c.loop-wire.invariant c.in_default.ensures.none

pub returns-clause-none : goal.returns-clause-none
returns-clause-none c =
    found_nowhere (is_moving c.args.self.set.of.netlist.now c.args.self.units c.args.narrow) c.args.self.set.wires.now c.loop-wire.wire-index c.loop-wire-test.false c.loop-wire.invariant
