use Rattle.std.proofs.Common.{sym}
use Rattle.std.proofs.lemmas.Result.{on_ok_weaker}
use Rattle.mp_simulation.proofs.run.seating.Seating.add.Goals as goal

pub returns : goal.returns
returns c = on_ok_weaker c.seat.result (λ seats. seats c.args.id.0 (sym c.in-Some.ensures.value)) c.seat.ensures
