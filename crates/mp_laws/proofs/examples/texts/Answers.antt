use Rattle.mp_laws.proofs.ExampleLemmas.{text_examples}
use Rattle.mp_laws.proofs.examples.texts.Goals as goal

pub returns : goal.returns
returns c = text_examples
