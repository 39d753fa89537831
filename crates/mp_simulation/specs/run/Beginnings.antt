-- What a simulation of a netlist begins with, whose numbers may be those of a netlist with more modules.
use Rattle.std.specs.Prelude.{◌≡◌, ℕ, ◌<◌, ◌≤◌, List, [], Some, length, map, slice_index_or}
use Rattle.mp_records.specs.declared.module_record.ModuleRecord.{ModuleRecord}
use Rattle.mp_netlist.specs.Circuit.{Circuit, IsCircuit, module_at}
use Rattle.mp_kernel.specs.declared.events.output_ports.OutputPorts.{OutputPorts}
use Rattle.mp_simulation.specs.declared.bits.simulation.Simulation.{Simulation}
use Rattle.mp_kernel.specs.declared.datapath.level_change.LevelChange.{LevelChange}
use Rattle.mp_simulation.specs.declared.units.data_wires.DataWires.{DataWires}
use Rattle.mp_simulation.specs.declared.units.netlist_simulation.NetlistSimulation.{NetlistSimulation}
use Rattle.mp_simulation.specs.units.DataLevels.{is_data}
use Rattle.mp_simulation.specs.declared.run.delays.Delays.{Delays}
use Rattle.mp_simulation.specs.declared.run.wiring.Wiring.{Wiring}
use Rattle.mp_simulation.specs.declared.run.layout.Layout.{Layout}
use Rattle.mp_simulation.specs.run.Delays.{AreWithin}
use Rattle.mp_simulation.specs.run.FirstLevels.{first_wave, first_building}
use Rattle.mp_simulation.specs.run.Settling.{ports_of, IsSettled, AreFirstLevels}
use Rattle.mp_simulation.specs.run.Wirings.{AreWiredInputs}
use Rattle.mp_simulation.specs.run.Numbering.{AreCopiesOf, level_of_wire, is_bit}
use Rattle.mp_simulation.specs.run.Seating.{IsSeated}

-- a netlist has as many slots as another, and of its modules some or all
pub record IsPartOf (part n : Circuit) : Type 0 where
  pub wires : length part.wires ≡ length n.wires
  pub modules : length part.modules ≡ length n.modules
  pub same : (m : ℕ) (r : ModuleRecord) → module_at part m ≡ Some r → module_at n m ≡ Some r

-- the modules and wires of width 1 of a part, with the outputs of all modules
pub record AreFirstBits (n all : Circuit) (wiring : Wiring) (d : Delays) (s : Simulation) : Type 0 where
  pub settled : IsSettled n (length n.modules) s.simulator.states.items s.simulator.wheel
  pub levels : AreFirstLevels n (length n.modules) s.simulator.levels.items
  pub outputs : s.simulator.outputs ≡ map ports_of all.modules
  pub fanout : s.simulator.fanout ≡ wiring.rows.items
  pub waves : s.simulator.waves ≡ map first_wave n.wires
  pub due : s.simulator.due.items ≡ []
  pub units : length s.simulator.wheel ≡ d.outputs
  pub next : AreCopiesOf (is_bit n) wiring.wires.items wiring.next.items s.copies.next.items
  pub copies : length s.copies.wheel ≡ d.inputs
  pub empty : (k : ℕ) → slice_index_or s.copies.wheel k [] ≡ []

-- the wires of any width
pub record AreFirstWires (n : Circuit) (wiring : Wiring) (slots : List (List LevelChange)) (s : DataWires) : Type 0 where
  pub levels : s.levels.items ≡ map (level_of_wire n) wiring.wires.items
  pub next : AreCopiesOf (is_data n) wiring.wires.items wiring.next.items s.next.items
  pub waves : s.waves.items ≡ map first_building n.wires
  pub wheel : s.wheel ≡ slots

-- the longest delays of a netlist, and which numbers its modules read
pub record IsLayout (n : Circuit) (layout : Layout) : Type 0 where
  pub within : AreWithin n (length n.modules) layout.delays
  pub some_output : 0 < layout.delays.outputs
  pub some_input : 0 < layout.delays.inputs
  pub wired : AreWiredInputs n (length n.modules) layout.wired.wiring layout.wired.inputs.items

-- the layout, and these outputs, are of a netlist of which this one is a part
pub record CanBegin (n : Circuit) (layout : Layout) (outputs : List OutputPorts) : Type 0 where
  pub all : Circuit
  pub form : IsCircuit all
  pub part : IsPartOf n all
  pub laid : IsLayout all layout
  pub driven : outputs ≡ map ports_of all.modules

-- the modules and wires of width 1 of a part, by the layout of all
pub record AreBegunBits (n all : Circuit) (layout : Layout) (s : Simulation) : Type 0 where
  pub laid : IsLayout all layout
  pub bits : AreFirstBits n all layout.wired.wiring layout.delays s

-- all of it, with no delay longer than the wheels
pub record IsBegun (n all : Circuit) (layout : Layout) (s : NetlistSimulation) : Type 0 where
  pub begun : AreBegunBits n all layout s.bits
  pub wires : AreFirstWires n layout.wired.wiring s.wires.wheel s.wires
  pub seated : IsSeated n (length n.modules) layout.wired.inputs.items (record { modules = s.modules; wheel = s.wires.wheel })
  pub outputs : layout.delays.outputs ≤ length s.wires.wheel
  pub inputs : layout.delays.inputs ≤ length s.wires.wheel
