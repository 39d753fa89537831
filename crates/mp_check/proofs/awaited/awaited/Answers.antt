use Rattle.std.proofs.Common.{◌≡◌, None, is_some, sym, ap, ◌∙◌}
use Rattle.mp_records.specs.declared.ports.Output.{Output}
use Rattle.mp_records.specs.Outputs.{output_at}
use Rattle.mp_holding.proofs.lemmas.sets.ClosedLemmas.{true_false}
use Rattle.mp_check.specs.Dead.{dead, port_number}
use Rattle.mp_check.proofs.DeadLemmas.{dead_is_kept, kept_wired, kept_quiet}
use Rattle.mp_check.proofs.awaited.awaited.Goals as goal

pub awaited_at-requires-clause-quiet : goal.awaited_at-requires-clause-quiet
awaited_at-requires-clause-quiet c =
    let of = c.args.of.now in
    let n = of.end.at.netlist.now in
    kept_quiet n of.id.0 c.args.port of.part.now of.stands c.requires.port (dead n) (dead_is_kept n (port_number of.id.0 c.args.port) c.requires.dead)

pub returns-in-None : goal.returns-in-None
returns-in-None c =
    let of = c.args.of.now in
    let n = of.end.at.netlist.now in
    let wired = kept_wired n of.id.0 c.args.port of.part.now of.stands c.requires.port (dead n) (dead_is_kept n (port_number of.id.0 c.args.port) c.requires.dead) in
    let bare : (output_at of.part.now c.args.port).wire ≡ None = ap (λ (o : Output). o.wire) (sym c.output_at.ensures) ∙ c.in-None.is in
    absurd (true_false (is_some (output_at of.part.now c.args.port).wire) wired (ap is_some bare))
