use Rattle.mp_laws.proofs.ExampleLemmas.{batch_examples}
use Rattle.mp_laws.proofs.examples.batches.Goals as goal

pub returns : goal.returns
returns c = batch_examples
