use Rattle.mp_commands.proofs.Names.{refl, WriteFailed, puts_as}
use Rattle.mp_commands.proofs.ReplyLemmas.{change_replied, ask_replied}
use Rattle.mp_commands.proofs.replies.put_line_reply.Goals as goal

pub returns-in_err-put_change-in-Change : goal.returns-in_err-put_change-in-Change
returns-in_err-put_change-in-Change g c =
    let put = c.in_err-put_change-in-Change.ensures in
    let r = c.from_residual in
    rw c.in-Change.is (change_replied r.result _ _ c.args.session.now c.put_change.new.session c.in-Change.edit put.0 put.1 (puts_as r.result WriteFailed r.ensures.1 refl put.2))

pub returns-in-Ask : goal.returns-in-Ask
returns-in-Ask g c =
    let put = rw c.snapshot.ensures at c.put_answer.ensures in
    rw c.in-Ask.is (ask_replied c.put_answer.result _ _ c.args.session.now c.in-Ask.question put)
