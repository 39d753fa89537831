use Rattle.mp_seats.proofs.hosting.hosting.host_parts.Goals as goal

pub returns-in_ok-host_staffed-in-Ok-clause-hosted : goal.returns-in_ok-host_staffed-in-Ok-clause-hosted
returns-in_ok-host_staffed-in-Ok-clause-hosted g c =
    c.in_ok-host_staffed-in-Ok.ensures.hosted (g.S.EditSession.story c.args.parts.session) c.in-Ok.ensures.designers.1 c.in-Ok.ensures.viewers.1 c.in-Ok.ensures.desk.0
