use Rattle.mp_commands.proofs.lemmas.command_runs.Names.{Ok, Err, err_from_is_err_and, WriteFailed, OutOfMemory}
use Rattle.mp_commands.proofs.lemmas.command_runs.RunLemmas.{unread_source, from_input, ran_flushed, ran_unflushed, part_flushed, part_unflushed}
use Rattle.mp_commands.proofs.command_runs.command.run_command.Goals as goal

pub returns-in_err-input-clause-written : goal.returns-in_err-input-clause-written
returns-in_err-input-clause-written g c = unread_source g.C.InputCommand.seats _ _ _ _ c.from_residual.result c.in_err-input.field-0.0 c.from_residual.ensures.1 c.in_err-input.ensures.refused

pub returns-in_err-flush-in-Ok-clause-written : goal.returns-in_err-flush-in-Ok-clause-written
returns-in_err-flush-in-Ok-clause-written g c =
    let seats = g.C.InputCommand.seats in
    let r = c.from_residual-in_err-flush-in-Ok in
    let p = err_from_is_err_and r.result r.ensures.1 in
    rw (p.1, p.2) (from_input seats _ _ _ _ _ (Err WriteFailed) c.in_ok-input.input.items c.in_ok-input.ensures.input c.in_ok-input.ensures.within
    (ran_unflushed _ _ _ _ _ seats c.in-Ok.ensures c.in_err-flush-in-Ok.ensures.written))

pub returns-in_ok-flush-in-Ok-clause-written : goal.returns-in_ok-flush-in-Ok-clause-written
returns-in_ok-flush-in-Ok-clause-written g c =
    from_input g.C.InputCommand.seats _ _ _ _ _ (Ok tt) c.in_ok-input.input.items c.in_ok-input.ensures.input c.in_ok-input.ensures.within
    (ran_flushed _ _ _ _ _ g.C.InputCommand.seats c.in-Ok.ensures c.in_ok-flush-in-Ok.ensures.written)

pub returns-in_err-flush-in-Err-OutOfMemory-clause-written : goal.returns-in_err-flush-in-Err-OutOfMemory-clause-written
returns-in_err-flush-in-Err-OutOfMemory-clause-written g c =
    let seats = g.C.InputCommand.seats in
    let r = c.from_residual-in_err-flush-in-Err-OutOfMemory in
    let p = err_from_is_err_and r.result r.ensures.1 in
    let ran = rw c.in-Err-OutOfMemory.field-0-is at c.in-Err-OutOfMemory.ensures in
    rw (p.1, p.2) (from_input seats _ _ _ _ _ (Err WriteFailed) c.in_ok-input.input.items c.in_ok-input.ensures.input c.in_ok-input.ensures.within
    (part_unflushed _ _ _ _ _ seats c.requires ran c.in_err-flush-in-Err-OutOfMemory.ensures.written))

pub returns-in_ok-flush-in-Err-OutOfMemory-clause-written : goal.returns-in_ok-flush-in-Err-OutOfMemory-clause-written
returns-in_ok-flush-in-Err-OutOfMemory-clause-written g c =
    let seats = g.C.InputCommand.seats in
    let ran = rw c.in-Err-OutOfMemory.field-0-is at c.in-Err-OutOfMemory.ensures in
    from_input seats _ _ _ _ _ (Err OutOfMemory) c.in_ok-input.input.items c.in_ok-input.ensures.input c.in_ok-input.ensures.within
    (part_flushed _ _ _ _ _ seats ran c.in_ok-flush-in-Err-OutOfMemory.ensures.written)
