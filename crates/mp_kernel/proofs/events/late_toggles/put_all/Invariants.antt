use Rattle.std.proofs.Common.{take}
use Rattle.mp_kernel.proofs.lemmas.events.LateToggleLemmas.{ArePut}
use Rattle.mp_kernel.proofs.events.late_toggles.put_all.Given as goal

-- the toggles before are in their waves
abbrev pub invariant-loop-each : goal.invariant-loop-each
invariant-loop-each l = ArePut l.fn.waves.items l.waves.items (take l.each-index l.toggles)
