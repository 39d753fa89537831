-- A change of a netlist whose run is known.
use Rattle.std.specs.Prelude.{◌≡◌, ◌≤◌, length}
use Rattle.mp_netlist.specs.Circuit.{Circuit, IsCircuit}
use Rattle.mp_netlist.specs.Delays.{least_delay}
use Rattle.mp_partition.specs.runs.Runs.{IsRun}
use Rattle.mp_depend.specs.work.Revisions.{IsRevision}
use Rattle.mp_near.specs.declared.revision.Revision.{Revision}

pub record IsChange (change : Revision) : Type 0 where
  pub old : IsCircuit change.old.now
  pub new : IsCircuit change.new.now
  pub revision : IsRevision change.old.now change.new.now
  pub run : IsRun change.old.now change.run.now
  pub least : change.least ≡ least_delay change.new.now

-- a netlist with no more slots than the new one, and with its horizon: the old one or the new one
pub record IsEither (change : Revision) (n : Circuit) : Type 0 where
  pub horizon : n.horizon ≡ change.old.now.horizon
  pub wires : length n.wires ≤ length change.new.now.wires
  pub modules : length n.modules ≤ length change.new.now.modules
