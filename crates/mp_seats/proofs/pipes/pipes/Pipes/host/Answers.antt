use Rattle.std.proofs.Common.{◌++◌, ℕ, List, ap, subst}
use Rattle.std.proofs.lemmas.Result.{IfOk-weaker}
use Rattle.std.specs.declared.fs.File.{File}
use Rattle.mp_streams.specs.StreamFaults.{Counted}
use Rattle.mp_seats.specs.declared.hosting.seat_place.SeatName.{SeatName}
use Rattle.mp_seats.specs.Replies.{Writing, signed_writing}
use Rattle.mp_seats.specs.hosting.Hostings.{IsHosted}
use Rattle.mp_seats.specs.hosting.OwnSeats.{HasTalkedWithin}
use Rattle.mp_seats.specs.hosting.Places.{SeatNames}
use Rattle.mp_seats.specs.pipes.PipeDoors.{ComesTo, LeavesFrom, TurnsAwayFrom}
use Rattle.mp_seats.proofs.pipes.pipes.Pipes.host.Goals as goal

pub returns-clause-hosted : goal.returns-clause-hosted
returns-clause-hosted g c =
    let writing : List ℕ → Writing = signed_writing g.B.ReplyWriter.answer_text g.B.ReplyWriter.reply_text in
    let first = g.S.EditSession.story c.args.kept.session in
    IfOk-weaker c.host-met.result _ _
    (λ met h. (
      h.0,
      subst
          (λ (viewers : List SeatName). IsHosted (Counted File) ComesTo LeavesFrom TurnsAwayFrom writing h.0 first (g.S.EditSession.story met.outcome.session) c.args.self.now.designers viewers met.outcome.tallies.items met.outcome.numbers.items)
          c.in_ok-hall.ensures.viewers
          (subst
          (λ (designers : List SeatName). IsHosted (Counted File) ComesTo LeavesFrom TurnsAwayFrom writing h.0 first (g.S.EditSession.story met.outcome.session) designers c.in_ok-hall.hall.viewers.items met.outcome.tallies.items met.outcome.numbers.items)
          c.in_ok-hall.ensures.designers h.1),
      subst
          (λ (names : List SeatName). HasTalkedWithin (writing h.0) met.talked first (g.S.EditSession.story met.outcome.session) names c.args.lines.now c.host-met.new.lines c.args.out.now c.host-met.new.out)
          (ap (λ (seats : SeatNames). seats.designers ++ seats.viewers) c.in_ok-hall.ensures.exit) h.2,
    ))
    c.host-met.ensures.hosted
