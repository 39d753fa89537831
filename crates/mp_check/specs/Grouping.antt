-- Groups of problems that are made problem by problem.
use Rattle.std.specs.Prelude.{ℕ, ◌+◌, List, Option, Some, None, map, max}
use Rattle.mp_questions.specs.Once.{firsts}
use Rattle.mp_check.specs.Keys.{key_of}
use Rattle.mp_check.specs.Problems.{group_of, is_alike, time_of, units_of}
use Rattle.mp_check.specs.declared.group.Group.{Group}
use Rattle.mp_check.specs.declared.problem.Problem.{Problem}

-- the group of one problem
abbrev pub alone : Problem → Group
alone p = record { first = p; count = 1; last = time_of p; worst = units_of p }

-- a group with a problem more
abbrev pub joined : Group → Problem → Group
joined g p = record { first = g.first; count = g.count + 1; last = time_of p; worst = max g.worst (units_of p) }

-- the same, if there is a group
abbrev pub joined_to : Option Group → Problem → Group
joined_to None p = alone p
joined_to (Some g) p = joined g p

-- the groups of some problems, in their order, each under the key of its problems
abbrev pub keyed_groups : List Problem → List (ℕ × Group)
keyed_groups problems = map (λ first. (key_of first, group_of problems first)) (firsts is_alike problems)
