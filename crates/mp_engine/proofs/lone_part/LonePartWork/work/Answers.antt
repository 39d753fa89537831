use Rattle.std.proofs.lemmas.Result.{IfOk-weaker}
use Rattle.mp_engine.proofs.lone_part.LonePartWork.work.Goals as goal

pub returns-clause-passed : goal.returns-clause-passed
returns-clause-passed g c = IfOk-weaker c.run_region.result _ _ (λ run is m from to nobody. absurd nobody) c.run_region.ensures
