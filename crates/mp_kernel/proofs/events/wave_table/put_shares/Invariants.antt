use Rattle.mp_kernel.proofs.lemmas.events.WaveTableLemmas.{ArePutBefore}
use Rattle.mp_kernel.proofs.events.wave_table.put_shares.Given as goal

-- the toggles of the shares before are in their waves
abbrev pub invariant-loop-share : goal.invariant-loop-share
invariant-loop-share l = ArePutBefore l.fn.late l.late l.fn.waves.items l.waves.items l.share
