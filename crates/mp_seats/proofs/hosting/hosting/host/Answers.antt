use Rattle.std.proofs.Common.{ℕ, List, ap, subst}
use Rattle.mp_version.specs.Stories.{Story}
use Rattle.mp_seats.specs.Replies.{Writing, signed_writing}
use Rattle.mp_seats.specs.hosting.Hostings.{IsHosted}
use Rattle.mp_seats.specs.hosting.OwnSeats.{HasTalkedWithin}
use Rattle.mp_seats.proofs.hosting.hosting.host.Goals as goal

pub returns-in_ok-host_parts-in-Ok-new-clause-hosted : goal.returns-in_ok-host_parts-in-Ok-new-clause-hosted
returns-in_ok-host_parts-in-Ok-new-clause-hosted g c =
    let writing : List ℕ → Writing = signed_writing g.B.ReplyWriter.answer_text g.B.ReplyWriter.reply_text in
    let met = c.in_ok-host_parts-in-Ok-new.field-0 in
    subst
    (λ (start : Story). (authors : List ℕ)
    × IsHosted g.row.D-Output.Denot g.D.Door.Comes g.D.Door.Leaves g.D.Door.TurnsAway writing authors start (g.S.EditSession.story met.outcome.session) c.args.hall.designers.items c.args.hall.viewers.items met.outcome.tallies.items met.outcome.numbers.items
    × HasTalkedWithin (writing authors) met.talked start (g.S.EditSession.story met.outcome.session) (g.X.Exit.names c.args.hall.exit) c.args.lines.now c.host_parts.new.lines c.args.out.now c.host_parts.new.out)
    (ap g.S.EditSession.story c.in-Ok-new.ensures.session) c.in_ok-host_parts-in-Ok-new.ensures.hosted
