use Rattle.std.proofs.Common.{subst, sym}
use Rattle.mp_kernel.specs.events.WaveTables.{AreAllLate}
use Rattle.mp_kernel.proofs.events.wave_table.settle.Goals as goal

pub put_shares-put-requires : goal.put_shares-put-requires
put_shares-put-requires c = subst (λ l. AreAllLate c.args.waves.now.items l) (sym c.deref_mut.ensures.value) c.requires
