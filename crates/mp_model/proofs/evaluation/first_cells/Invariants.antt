use Rattle.std.proofs.Common.{◌≡◌, map, take, option_map}
use Rattle.mp_model.specs.Evaluations.{first_cell}
use Rattle.mp_model.proofs.evaluation.first_cells.Given as goal

-- the cells so far are those of the modules so far
abbrev pub invariant-loop-m : goal.invariant-loop-m
invariant-loop-m l = l.cells.items ≡ map (option_map (first_cell l.netlist)) (take l.m l.netlist.modules)
