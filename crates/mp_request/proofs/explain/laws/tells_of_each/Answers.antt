use Rattle.mp_request.proofs.lemmas.explain.TitleLemmas.{tells_of_each}
use Rattle.mp_request.proofs.explain.laws.tells_of_each.Goals as goal

pub returns : goal.returns
returns c = tells_of_each
