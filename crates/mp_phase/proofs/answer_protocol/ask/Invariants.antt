use Rattle.mp_phase.proofs.answer_protocol.ask.Given as goal

abbrev pub ghosts-ask_as : goal.ghosts-ask_as
ghosts-ask_as g a = record { asked = a.tasks.now }
