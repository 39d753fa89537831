use Rattle.std.proofs.Common.{None}
use Rattle.mp_kernel.specs.declared.events.output_port.OutputPort.{OutputPort}
use Rattle.mp_kernel.specs.declared.events.output_ports.OutputPorts.{OutputPorts}
use Rattle.mp_kernel.specs.declared.events.output_table.OtherPorts.{OtherPorts}
use Rattle.mp_kernel.proofs.lemmas.events.OutputTableLemmas.{table_next}
use Rattle.mp_kernel.proofs.events.output_table.OutputTable.from_ports.Goals as goal

pub loop-each-preserved : goal.loop-each-preserved
loop-each-preserved c =
    let none : OutputPort = record { wire = None; delay = 0 } in
    let no : OutputPorts = record { first = none; second = none; third = none } in
    let more : OtherPorts = record { second = c.of-in-loop-each.result; third = c.of-in-loop-each-2.result } in
    let found = table_next c.loop-each.firsts.items c.push.new.self.items c.loop-each.others.items c.push-in-loop-each.new.self.items more c.args.ports.now c.loop-each.each-index no c.of.result
    c.loop-each.invariant.count c.loop-each.invariant.joined c.in_ok-push.ensures.items c.in_ok-push-2.ensures.items c.loop-each-test.true c.of.ensures c.of-in-loop-each.ensures c.of-in-loop-each-2.ensures in
    record { count = found.0; joined = found.1 }
