use Rattle.mp_simulation.proofs.lemmas.run.AllStimuliLemmas.{AreBelow}
use Rattle.mp_simulation.proofs.run.stimuli.Stimuli.of.Given as goal

-- the toggles of the wires so far are listed
abbrev pub invariant-loop-w : goal.invariant-loop-w
invariant-loop-w l = AreBelow l.netlist l.w l.list.items
