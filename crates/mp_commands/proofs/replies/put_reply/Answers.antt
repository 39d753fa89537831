use Rattle.std.specs.Prelude.{◌≡◌}
use Rattle.mp_commands.proofs.Names.{false, refl, rules, WriteFailed, puts_as}
use Rattle.mp_commands.proofs.ReplyLemmas.{unread_replied, memory_replied, is_memory}
use Rattle.mp_commands.proofs.replies.put_reply.Goals as goal

pub returns-in-Ok : goal.returns-in-Ok
returns-in-Ok g c = rw c.in-Ok.ensures.read c.put_line_reply.ensures

pub returns-in_err-put_unread-in-Err : goal.returns-in_err-put_unread-in-Err
returns-in_err-put_unread-in-Err g c =
    let r = c.from_residual in
    let other : is_memory c.in-Err.error ≡ false = search rules in
    let put = c.in_err-put_unread-in-Err.ensures in
    unread_replied r.result _ _ c.args.session.now c.args.line.now c.in-Err.error c.in-Err.ensures.read other (puts_as r.result WriteFailed r.ensures.1 refl put)

pub returns-in-Err-OutOfMemory : goal.returns-in-Err-OutOfMemory
returns-in-Err-OutOfMemory g c = memory_replied _ c.args.out.now c.args.session.now c.args.line.now refl
