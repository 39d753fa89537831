use Rattle.std.proofs.Common.{◌≡◌, ◌++◌, map, drop}
use Rattle.mp_simulation.specs.run.Stimuli.{change_of, set_changes}
use Rattle.mp_simulation.proofs.run.stimuli.add_changes.Given as goal

-- what is left gives the rest
abbrev pub invariant-loop-change : goal.invariant-loop-change
invariant-loop-change l =
    l.list.items ++ map (change_of l.wire l.has_data) (set_changes l.level (drop l.change-index l.changes)) ≡
    l.fn.list.items ++ map (change_of l.wire l.has_data) (set_changes l.initial' l.changes)
