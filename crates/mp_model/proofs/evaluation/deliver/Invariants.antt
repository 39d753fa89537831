use Rattle.mp_model.specs.Evaluations.{AreTracks, delivered}
use Rattle.mp_model.proofs.evaluation.deliver.Given as goal

-- the ports so far have delivered
abbrev pub invariant-loop-p : goal.invariant-loop-p
invariant-loop-p l = AreTracks l.netlist (delivered l.time l.fn.id.0 l.p) l.time l.tracks.items
