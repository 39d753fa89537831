use Rattle.mp_model.proofs.lemmas.response.JoinLemmas.{one_span}
use Rattle.mp_model.proofs.response.laws.one_span.Goals as goal

pub returns : goal.returns
returns c = one_span
