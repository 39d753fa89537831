use Rattle.mp_laws.proofs.ExampleLemmas.{number_example}
use Rattle.mp_laws.proofs.examples.numbers.Goals as goal

pub returns : goal.returns
returns c = number_example
