use Rattle.std.proofs.Common.{◌≡◌, sym, ap, subst}
use Rattle.mp_version.specs.Stories.{Story}
use Rattle.mp_commands.specs.live.LiveDesks.{IsLiveDesk}
use Rattle.mp_commands.proofs.live.live_desk.serve_live.Goals as goal

pub returns-in-Ok-clause-live : goal.returns-in-Ok-clause-live
returns-in-Ok-clause-live g c =
    let hosted = c.in-Ok.hosted in
    let same : g.S.EditSession.story c.closed.result.session ≡ g.S.EditSession.story hosted.outcome.session = ap g.S.EditSession.story c.closed.ensures.session.0 in
    subst
    (λ (last : Story). IsLiveDesk (g.S.EditSession.story c.args.kept.session) last c.args.pipes.now c.closed.result.ended c.args.lines.now c.host.new.lines c.args.out.now c.closed.new.out)
    (sym same)
    (record {
      talk = hosted.talked;
      answered = c.host.new.out;
      tallies = hosted.outcome.tallies.items;
      numbers = hosted.outcome.numbers.items;
      authors = c.in-Ok.ensures.hosted.0;
      hosted = c.in-Ok.ensures.hosted.1;
      talked = c.in-Ok.ensures.hosted.2;
      closed = c.closed.ensures.ends;
    })
