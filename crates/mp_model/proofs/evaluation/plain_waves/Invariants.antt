use Rattle.std.proofs.Common.{◌-◌, length}
use Rattle.mp_model.specs.Evaluations.{AreTracks, AreCells, delivered}
use Rattle.mp_model.proofs.evaluation.plain_waves.Given as goal

-- all modules have answered at the unit before
abbrev pub invariant-loop-time : goal.invariant-loop-time
invariant-loop-time l = AreTracks l.netlist (delivered (l.time - 1) (length l.netlist.modules) 0) (l.time - 1) l.tracks.items × AreCells l.netlist (l.time - 1) (length l.netlist.modules) l.cells.items
