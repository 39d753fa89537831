use Rattle.mp_commands.proofs.command_runs.viewed.run_view.Goals as goal

pub returns-clause-written : goal.returns-clause-written
returns-clause-written g c = c.run_command.ensures.written
