use Rattle.mp_questions.proofs.lemmas.causes.ShareLemmas.{adds_up}
use Rattle.mp_questions.proofs.causes.laws.adds_up.Goals as goal

pub returns : goal.returns
returns c = adds_up
