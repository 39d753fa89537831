use Rattle.std.proofs.Common.{subst}
use Rattle.mp_version.specs.Stories.{Story, opening}
use Rattle.mp_desk.specs.Holders.{AreFresh}
use Rattle.mp_meeting.proofs.meeting.at_desk.Goals as goal

pub returns-in_ok-run_at-in-Ok-clause-met : goal.returns-in_ok-run_at-in-Ok-clause-met
returns-in_ok-run_at-in-Ok-clause-met g c =
    let base = (g.S.EditSession.story c.args.parts.session).base in
    let fresh : AreFresh (opening base) c.in-Ok.staffed.designers.items =
    subst (λ (s : Story). AreFresh s c.in-Ok.staffed.designers.items) c.requires.fresh c.in-Ok.ensures.designers.1 in
    c.in_ok-run_at-in-Ok.ensures.met base fresh
