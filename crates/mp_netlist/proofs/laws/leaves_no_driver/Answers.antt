use Rattle.mp_netlist.proofs.DriverLemmas.{leaves_no_driver}
use Rattle.mp_netlist.proofs.laws.leaves_no_driver.Goals as goal

pub returns : goal.returns
returns c = leaves_no_driver
