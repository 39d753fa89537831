use Rattle.std.proofs.Common.{◌≡◌, ◌++◌, filter, map, take}
use Rattle.mp_check.specs.Selections.{keeps_finding, selected}
use Rattle.mp_check.specs.declared.problem.Problem.TheVariants.{Found}
use Rattle.mp_check.proofs.grouping.push_found.Given as goal

-- the findings so far that are selected
abbrev pub invariant-loop-finding : goal.invariant-loop-finding
invariant-loop-finding l = l.problems.items ≡ l.fn.problems.items ++ map Found (filter (keeps_finding l.netlist (selected l.selection)) (take l.finding-index l.findings))
