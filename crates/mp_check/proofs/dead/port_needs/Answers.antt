use Rattle.std.proofs.Common.{◌≡◌, Some, sym, ap, ◌∙◌}
use Rattle.mp_records.specs.declared.ports.Output.{Output}
use Rattle.mp_records.specs.Outputs.{output_at}
use Rattle.mp_check.proofs.PortLemmas.{wired_low}
use Rattle.mp_check.proofs.dead.port_needs.Goals as goal

pub held_needs-requires-clause-port : goal.held_needs-requires-clause-port
held_needs-requires-clause-port c =
    let of = c.args.of.now in
    let on : (output_at of.part.now c.args.port).wire ≡ Some c.in-Some.wire = ap (λ (o : Output). o.wire) (sym c.output_at.ensures) ∙ c.in-Some.is in
    wired_low of.end.at.netlist.now c.horizon-horizon.ensures.form of.id.0 c.args.port of.part.now c.in-Some.wire of.stands on
