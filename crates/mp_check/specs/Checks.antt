-- What is found where a netlist is checked.
use Rattle.std.specs.Prelude.{◌≡◌}
use Rattle.mp_netlist.specs.Circuit.{Circuit}
use Rattle.mp_model.specs.Findings.{findings}
use Rattle.mp_depend.specs.Drivers.{AreDrivers}
use Rattle.mp_questions.specs.late.Lateness.{all_late}
use Rattle.mp_check.specs.Deadlocks.{deadlocks}
use Rattle.mp_check.specs.ReadWires.{AreRead}
use Rattle.mp_check.specs.declared.checked.Checked.{Checked}

-- the check of a netlist
pub record IsCheckOf (n : Circuit) (check : Checked) : Type 0 where
  pub findings_are : check.findings.items ≡ findings n
  pub late_are : check.late.items ≡ all_late n
  pub deadlocks_are : check.deadlocks.items ≡ deadlocks n
  pub drivers_are : AreDrivers n check.drivers.items
  pub read_are : AreRead n check.read.items
