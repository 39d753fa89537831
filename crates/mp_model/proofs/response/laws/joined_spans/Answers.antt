use Rattle.mp_model.proofs.lemmas.response.JoinLemmas.{joined_spans}
use Rattle.mp_model.proofs.response.laws.joined_spans.Goals as goal

pub returns : goal.returns
returns c = joined_spans
