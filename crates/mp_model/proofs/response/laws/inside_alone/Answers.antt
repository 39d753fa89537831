use Rattle.mp_model.proofs.lemmas.response.JoinLemmas.{inside_alone}
use Rattle.mp_model.proofs.response.laws.inside_alone.Goals as goal

pub returns : goal.returns
returns c = inside_alone
