use Rattle.mp_laws.proofs.WindowLemmas.{any_order}
use Rattle.mp_laws.proofs.windows.any_order.Goals as goal

pub returns : goal.returns
returns c = any_order
