use Rattle.mp_laws.proofs.FindingOrderLemmas.{only_list}
use Rattle.mp_laws.proofs.findings.only_findings.Goals as goal

pub returns : goal.returns
returns c = only_list
