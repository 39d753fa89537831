use Rattle.mp_modules.proofs.lemmas.automata.ReactionLemmas.{reacts_as_module}
use Rattle.mp_modules.proofs.automata.laws.reacts_as_module.Goals as goal

pub returns : goal.returns
returns c = reacts_as_module
