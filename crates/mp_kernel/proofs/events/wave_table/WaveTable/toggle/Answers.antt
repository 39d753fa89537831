use Rattle.mp_kernel.proofs.lemmas.events.TogglingLemmas.{over_yet, toggled_next}
use Rattle.mp_kernel.proofs.events.wave_table.WaveTable.toggle.Goals as goal

pub toggle_wire-requires-clause-over : goal.toggle_wire-requires-clause-over
toggle_wire-requires-clause-over c = over_yet c.args.self.now c.loop-wire.self c.args.wires.now c.loop-wire.wire-index c.args.time c.loop-wire-test.true c.requires.over c.loop-wire.invariant

pub loop-wire-preserved : goal.loop-wire-preserved
loop-wire-preserved c =
    toggled_next c.args.self.now c.loop-wire.self c.toggle_wire.new.self c.args.wires.now c.loop-wire.wire-index c.args.time c.loop-wire-test.true c.requires.over c.loop-wire.invariant c.in_ok-toggle_wire.ensures
