use Rattle.mp_commands.proofs.ReplyLemmas.{edit_accepted, edit_refused}
use Rattle.mp_commands.proofs.replies.put_change.Goals as goal

pub returns-in-Ok : goal.returns-in-Ok
returns-in-Ok g c =
    edit_accepted c.put_accepted.result c.args.out.now c.put_accepted.new.out c.args.session.now c.change.new.self c.args.edit c.in-Ok.accepted c.in-Ok.ensures.ok c.in-Ok.ensures.one_more c.in-Ok.ensures.count
    c.put_accepted.ensures

pub returns-in-Err : goal.returns-in-Err
returns-in-Err g c =
    edit_refused c.put_refused.result c.args.out.now c.put_refused.new.out c.args.session.now c.change.new.self c.args.edit c.in-Err.error c.in-Err.ensures.refused c.in-Err.ensures.err c.put_refused.ensures
