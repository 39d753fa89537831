use Rattle.std.proofs.Common.{◌<◌, ◌+◌, ◌-◌, length}
use Rattle.mp_active.specs.steps.Chains.{next_in}
use Rattle.mp_active.proofs.lemmas.steps.ChainLemmas.{HasSameRoom, LeadsOn}
use Rattle.mp_active.proofs.steps.turning_on.turn_copies_on.Given as goal

-- what is behind the number is left to be turned on
abbrev pub invariant-loop-sooner : goal.invariant-loop-sooner
invariant-loop-sooner l =
    HasSameRoom l.wire.has_data l.fn.simulation l.simulation × (l.before < length (next_in l.wire.has_data l.fn.simulation))
    × LeadsOn l.wire.has_data l.wire.wave.now l.wire.number l.now l.fn.simulation l.before l.sooner l.simulation

abbrev pub decreases-loop-sooner : goal.decreases-loop-sooner
decreases-loop-sooner l = l.now + 1 - l.sooner
