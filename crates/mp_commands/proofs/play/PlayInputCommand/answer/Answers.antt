use Rattle.mp_commands.proofs.Names.{false, OutOfMemory, refused, wrote, wrote_part}
use Rattle.mp_commands.proofs.play.PlayInputCommand.answer.Goals as goal

pub returns-in_err-front : goal.returns-in_err-front
returns-in_err-front g c = refused _ _ _ _ c.from_residual.result OutOfMemory c.from_residual.ensures.1 tt

pub returns-in_err-netlist : goal.returns-in_err-netlist
returns-in_err-netlist g c =
    let r = c.from_residual-in_err-netlist in
    refused _ _ _ _ r.result c.in_err-netlist.field-0.0 r.ensures.1 (rw (c.crew.ensures, c.in_ok-front.ensures.front, c.as_slice-text.ensures.value) at c.in_err-netlist.ensures.refused)

pub returns-in_err-session : goal.returns-in_err-session
returns-in_err-session g c = refused _ _ _ _ c.from_residual-in_err-session.result OutOfMemory c.from_residual-in_err-session.ensures.1 tt

pub returns-in_err-put_replies : goal.returns-in_err-put_replies
returns-in_err-put_replies g c =
    let is_opened = rw (c.crew.ensures, c.in_ok-front.ensures.front, c.as_slice-text.ensures.value) at c.in_ok-netlist.ensures.netlist in
    let r = c.from_residual-in_err-put_replies in
    let put = rw (c.in_ok-session.ensures, c.in_ok-front.ensures.back, c.as_slice-text.ensures.value) at c.in_err-put_replies.ensures in
    wrote_part false _ _ c.in_ok-netlist.netlist is_opened put.0 put.1 _ _ r.result c.in_err-put_replies.field-0.0 r.ensures.1 put.2

pub returns : goal.returns
returns g c =
    let is_opened = rw (c.crew.ensures, c.in_ok-front.ensures.front, c.as_slice-text.ensures.value) at c.in_ok-netlist.ensures.netlist in
    let put = rw (c.in_ok-session.ensures, c.in_ok-front.ensures.back, c.as_slice-text.ensures.value) at c.in_ok-put_replies.ensures in
    wrote false _ _ c.in_ok-netlist.netlist is_opened put.0 put.1 _ _ put.2
