use Rattle.mp_laws.proofs.BatchLemmas.{batches_are_replays}
use Rattle.mp_laws.proofs.edits.batches_are_replays.Goals as goal

pub returns : goal.returns
returns c = batches_are_replays
