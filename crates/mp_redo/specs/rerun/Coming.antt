-- What comes in the next unit, as a comparison is given it.
use Rattle.std.specs.Prelude.{◌≡◌}
use Rattle.mp_simulation.specs.bits.Simulators.{slot_at}
use Rattle.mp_simulation.specs.bits.Simulations.{copy_slot}
use Rattle.mp_simulation.specs.declared.units.netlist_simulation.NetlistSimulation.{NetlistSimulation}
use Rattle.mp_simulation.specs.units.DataWheels.{data_slot}
use Rattle.mp_active.specs.declared.compare.set_wires.SetWires.{SetWires}
use Rattle.mp_active.specs.declared.compare.new_changes.NewChanges.{NewChanges}

-- it is what the next slots of the wheels have, and what is set
pub record IsComing (s : NetlistSimulation) (due : SetWires) (coming : NewChanges) : Type 0 where
  pub wires : coming.wires.now ≡ slot_at s.bits.simulator 0
  pub copies : coming.copies.now ≡ copy_slot s.bits.copies 0
  pub set : coming.set.now ≡ due.bits.items
  pub levels : coming.levels.now ≡ data_slot s.wires.wheel 0
  pub set_levels : coming.set_levels.now ≡ due.levels.items
