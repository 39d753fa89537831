-- What a netlist keeps of its fields.
use Rattle.mp_netlist.specs.declared.netlist.Netlist.TheInside.{Inside}
use Rattle.mp_netlist.specs.Circuit.{Circuit, IsCircuit}

abbrev pub circuit_of : Inside → Circuit
circuit_of fields = record {
  format = fields.format;
  horizon = fields.horizon;
  wires = fields.wires;
  modules = fields.modules;
  bundles = fields.bundles;
}

-- the records are a netlist
pub record AreRecords (fields : Inside) : Type 0 where
  pub circuit : IsCircuit (circuit_of fields)
