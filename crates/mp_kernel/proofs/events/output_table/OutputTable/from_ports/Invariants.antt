use Rattle.std.proofs.Common.{◌≡◌, length, take}
use Rattle.mp_kernel.specs.events.OutputTables.{ports_by}
use Rattle.mp_kernel.proofs.events.output_table.OutputTable.from_ports.Given as goal

-- the outputs so far
abbrev pub invariant-loop-each : goal.invariant-loop-each
invariant-loop-each l = record {
  count : length l.firsts.items ≡ length l.others.items;
  joined : ports_by l.firsts.items l.others.items ≡ take l.each-index l.ports;
}
