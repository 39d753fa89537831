use Rattle.mp_laws.proofs.FindingOrderLemmas.{in_order}
use Rattle.mp_laws.proofs.findings.findings_in_order.Goals as goal

pub returns : goal.returns
returns c = in_order
