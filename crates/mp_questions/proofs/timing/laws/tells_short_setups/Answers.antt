use Rattle.mp_questions.proofs.lemmas.timing.LawLemmas.{tells_short_setups}
use Rattle.mp_questions.proofs.timing.laws.tells_short_setups.Goals as goal

pub returns : goal.returns
returns c = tells_short_setups
