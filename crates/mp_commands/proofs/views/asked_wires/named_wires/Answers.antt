use Rattle.std.proofs.Common.{◌<◌, [], length, sym, ap, ap₂, ◌∙◌, arith}
use Rattle.std.proofs.lemmas.List.{get_or_read}
use Rattle.mp_netlist.specs.Circuit.{wire_named}
use Rattle.mp_commands.specs.views.AskedWires.{with_wire}
use Rattle.mp_commands.proofs.lemmas.views.AskedWireLemmas.{named_more}
use Rattle.mp_commands.proofs.views.asked_wires.named_wires.Goals as goal

pub loop-name-preserved : goal.loop-name-preserved
loop-name-preserved c =
    let n = c.args.netlist.now in
    let names = c.args.names.now in
    let i = c.loop-name.name-index in
    let within : i < length names = omega arith in
    let name = get_or_read names i c.name-item.result c.loop-name-test.true c.name-item.is [] in
    c.in_ok-add_wire.ensures
    ∙ ap₂ with_wire c.loop-name.invariant (c.wire_named.ensures ∙ ap (wire_named n) (c.as_str.ensures ∙ name))
    ∙ sym (named_more n names i [] within)
