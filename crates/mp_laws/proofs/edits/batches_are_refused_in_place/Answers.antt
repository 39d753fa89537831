use Rattle.mp_laws.proofs.BatchLemmas.{batches_are_refused_in_place}
use Rattle.mp_laws.proofs.edits.batches_are_refused_in_place.Goals as goal

pub returns : goal.returns
returns c = batches_are_refused_in_place
