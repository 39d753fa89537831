use Rattle.mp_questions.proofs.lemmas.causes.AboveSumLemmas as lemmas
use Rattle.mp_questions.proofs.causes.laws.adds_up_above.Goals as goal

pub returns : goal.returns
returns c = lemmas.adds_up_above
