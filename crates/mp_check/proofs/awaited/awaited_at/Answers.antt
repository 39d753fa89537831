use Rattle.mp_check.proofs.PortLemmas.{wired_low}
use Rattle.mp_check.proofs.awaited.awaited_at.Goals as goal

pub waiting_sets-sets-requires-clause-port : goal.waiting_sets-sets-requires-clause-port
waiting_sets-sets-requires-clause-port c =
    let of = c.args.of.now in
    wired_low of.end.at.netlist.now c.horizon-horizon.ensures.form of.id.0 c.args.port of.part.now c.args.wire of.stands c.requires.wire
