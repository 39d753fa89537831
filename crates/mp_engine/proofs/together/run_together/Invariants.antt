use Rattle.mp_engine.proofs.together.run_together.Given as goal

abbrev pub ghosts-run_apart : goal.ghosts-run_apart
ghosts-run_apart g a = record { netlist = a.divided.netlist.now; wires = a.divided.division.now.wires.items; heards = a.divided.division.now.heard.items }
