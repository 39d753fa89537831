use Rattle.std.proofs.Common.{subst, sym}
use Rattle.mp_kernel.specs.events.WaveTables.{AreLate}
use Rattle.mp_kernel.proofs.lemmas.events.LateToggleLemmas.{none_late}
use Rattle.mp_kernel.proofs.lemmas.events.WaveTableLemmas.{none_wait}
use Rattle.mp_kernel.proofs.events.wave_table.WaveTable.from_waves.Goals as goal

pub returns : goal.returns
returns c = none_wait _ _ c.in_ok-late.ensures

pub invariant_of-result : goal.invariant_of-result
invariant_of-result c = λ share. subst (λ l. AreLate c.args.waves.items share l) (sym (c.in_ok-late.ensures share)) (none_late c.args.waves.items share)
