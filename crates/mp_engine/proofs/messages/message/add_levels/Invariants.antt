use Rattle.std.proofs.Common.{◌≡◌, ◌++◌, drop}
use Rattle.mp_engine.specs.messages.Messages.{levels_told}
use Rattle.mp_engine.proofs.messages.message.add_levels.Given as goal

-- what is left gives the rest
abbrev pub invariant-loop-change : goal.invariant-loop-change
invariant-loop-change l = l.changes.items ++ levels_told l.heard l.time (drop l.change-index l.levels) ≡ l.fn.changes.items ++ levels_told l.heard l.time l.levels
