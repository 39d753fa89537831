use Rattle.std.proofs.Common.{refl}
use Rattle.mp_simulation.proofs.lemmas.run.WiringLemmas.{unread_next}
use Rattle.mp_simulation.proofs.run.wiring.unread_wires.Goals as goal

pub loop-wire-preserved : goal.loop-wire-preserved
loop-wire-preserved c =
    let added = c.in_ok-add_number.ensures in
    unread_next c.loop-wire.wire c.loop-wire.wiring c.add_number.new.self _ c.loop-wire.invariant added.next added.rows added.wires refl refl c.in_ok-push.ensures.items
