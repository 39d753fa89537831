use Rattle.mp_questions.proofs.lemmas.causes.ChainLemmas.{goes_back}
use Rattle.mp_questions.proofs.causes.laws.goes_back.Goals as goal

pub returns : goal.returns
returns c = goes_back
