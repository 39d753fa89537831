use Rattle.mp_model.specs.Evaluations.{AreTracks, AreCells, delivered}
use Rattle.mp_model.proofs.evaluation.answer_all.Given as goal

-- the modules so far have answered
abbrev pub invariant-loop-m : goal.invariant-loop-m
invariant-loop-m l = AreTracks l.netlist (delivered l.time l.m 0) l.time l.tracks.items × AreCells l.netlist l.time l.m l.cells.items
