use Rattle.mp_questions.proofs.lemmas.causes.ChainLemmas.{times_fall}
use Rattle.mp_questions.proofs.causes.laws.times_fall.Goals as goal

pub returns : goal.returns
returns c = times_fall
