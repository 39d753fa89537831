use Rattle.mp_questions.proofs.lemmas.causes.ChainLemmas.{has_cause}
use Rattle.mp_questions.proofs.causes.laws.has_cause.Goals as goal

pub returns : goal.returns
returns c = has_cause
