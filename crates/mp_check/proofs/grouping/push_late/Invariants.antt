use Rattle.std.proofs.Common.{◌≡◌, ◌++◌, filter, map, take}
use Rattle.mp_check.specs.Selections.{keeps_late, selected}
use Rattle.mp_check.specs.declared.problem.Problem.TheVariants.{Late}
use Rattle.mp_check.proofs.grouping.push_late.Given as goal

-- the late data so far that are selected
abbrev pub invariant-loop-one : goal.invariant-loop-one
invariant-loop-one l = l.problems.items ≡ l.fn.problems.items ++ map Late (filter (keeps_late l.netlist (selected l.selection)) (take l.one-index l.late))
