use Rattle.mp_netlist.proofs.BatchLemmas.{edits_keep_netlists}
use Rattle.mp_netlist.proofs.laws.edits_keep_netlists.Goals as goal

pub returns : goal.returns
returns c = edits_keep_netlists
