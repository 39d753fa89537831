use Rattle.std.proofs.Common.{◌≡◌, length, arith}
use Rattle.mp_records.specs.Inputs.{no_input}
use Rattle.mp_picture.specs.ReaderRows.{port_at}
use Rattle.mp_picture.proofs.ReaderLemmas.{more_none, more_next, inputs_all}
use Rattle.mp_picture.proofs.readers.push_inputs.Goals as goal

pub loop-port-init : goal.loop-port-init
loop-port-init c = more_none c.args.rows.now.items

pub loop-port-preserved : goal.loop-port-preserved
loop-port-preserved c =
    more_next (λ w. port_at w c.args.id.0) c.args.inputs.now c.loop-port.port c.args.rows.now.items c.loop-port.rows.items no_input c.push_port.new.rows.items c.loop-port-test.true
    c.loop-port.invariant c.in_ok-push_port.ensures

pub returns : goal.returns
returns c =
    let over : c.loop-port.port ≡ length c.args.inputs.now = omega (arith, c.loop-port-test.false) in
    inputs_all c.args.id.0 c.args.inputs.now c.loop-port.port c.args.rows.now.items c.loop-port.rows.items over c.loop-port.invariant
