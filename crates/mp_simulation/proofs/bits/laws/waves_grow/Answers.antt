use Rattle.mp_simulation.proofs.lemmas.bits.ChangeLemmas.{waves_grow}
use Rattle.mp_simulation.proofs.lemmas.bits.TraceLemmas.{traces_grow}
use Rattle.mp_simulation.proofs.bits.laws.waves_grow.Goals as goal

pub returns : goal.returns
returns c = record { waves = waves_grow; traces = traces_grow }
