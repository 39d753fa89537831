use Rattle.mp_model.proofs.EvaluationLemmas.{port_level_is}
use Rattle.mp_model.proofs.laws.follows_ports.Goals as goal

pub returns : goal.returns
returns c = port_level_is
