use Rattle.std.proofs.Common.{refl}
use Rattle.mp_records.specs.declared.ids.WireId.{WireId}
use Rattle.mp_streams.proofs.OutLemmas.{puts_as, puts_next, puts_stopped}
use Rattle.mp_picture.specs.Diagrams.{wire_line}
use Rattle.mp_picture.proofs.diagram.put_wires.Goals as goal

abbrev none : WireId
none = record { 0 = 0 }

pub returns-in_err-put_wire : goal.returns-in_err-put_wire
returns-in_err-put_wire g c =
    puts_as _ c.in_err-put_wire.field-0.0 c.from_residual.ensures.1 refl
    (puts_stopped (wire_line c.args.picture.now.netlist.now c.args.layout) _ c.loop-wire.wire-index none c.loop-wire-test.true c.loop-wire.invariant c.in_err-put_wire.ensures)

pub loop-wire-preserved : goal.loop-wire-preserved
loop-wire-preserved g c =
    puts_next (wire_line c.args.picture.now.netlist.now c.args.layout) _ c.loop-wire.wire-index none c.loop-wire-test.true c.loop-wire.invariant c.in_ok-put_wire.ensures
