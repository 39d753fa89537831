use Rattle.std.proofs.Common.{◌≡◌, take}
use Rattle.mp_questions.specs.causes.Causes.{events_at}
use Rattle.mp_questions.proofs.causes.cause.events_at.Given as goal

-- what the inputs so far hear
abbrev pub invariant-loop-input : goal.invariant-loop-input
invariant-loop-input l = l.events.items ≡ events_at l.levels.netlist.now l.time (take l.input-index l.inputs)
