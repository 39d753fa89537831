use Rattle.mp_kernel.proofs.lemmas.events.EntryLemmas.{schedules_each}
use Rattle.mp_kernel.proofs.events.laws.schedules_each.Goals as goal

pub returns : goal.returns
returns c = schedules_each
