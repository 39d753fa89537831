use Rattle.mp_laws.proofs.BatchLemmas.{batches_have_sizes}
use Rattle.mp_laws.proofs.edits.batches_have_sizes.Goals as goal

pub returns : goal.returns
returns c = batches_have_sizes
