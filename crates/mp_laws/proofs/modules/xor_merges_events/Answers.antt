use Rattle.mp_laws.proofs.ModuleEventLemmas.{merges_events}
use Rattle.mp_laws.proofs.modules.xor_merges_events.Goals as goal

pub returns : goal.returns
returns c = merges_events
