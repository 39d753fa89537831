-- What a checked change makes of a netlist.
use Rattle.std.specs.Prelude.{◌≡◌, ℕ, ◌<◌, ◌^◌, None, option_map}
use Rattle.std.specs.List.{All}
use Rattle.mp_records.specs.PortChanges.{with_input, with_input_delay, with_output, with_delay}
use Rattle.mp_netlist.specs.Circuit.{Circuit, IsCircuit, wire_at, module_at, wire_named, module_named, bundle_named}
use Rattle.mp_netlist.specs.Edits.{with_new_wire, with_wire, with_stimulus, without_stimulus, with_new_module, with_module, with_new_bundle, with_bundle}
use Rattle.mp_records.specs.declared.module_record.ModuleRecord.{ModuleRecord}
use Rattle.mp_records.specs.declared.bundle_record.BundleRecord.{BundleRecord}
use Rattle.mp_records.specs.declared.new_module.NewModule.{NewModule}
use Rattle.mp_netlist.specs.declared.netlist.new_ports.NewPorts.{NewPorts}
use Rattle.mp_netlist.specs.declared.netlist.checked.Checked.{Checked}
use Rattle.mp_netlist.specs.declared.netlist.checked.CheckedBundle.{CheckedBundle}
use Rattle.mp_netlist.specs.declared.netlist.checked.Checked.TheVariants.{NewWire, NoWire, Stimulus, NoStimulus, AddedModule, NoModule, Input, InputDelay, Output, Delay, NewBundle, NoBundle}

-- the bundle that is added
abbrev pub bundle_of : CheckedBundle → BundleRecord
bundle_of new = record { name = new.name.now; request = new.request; acknowledge = new.acknowledge; payload = new.payload; setup = new.setup }

-- the module that is added
abbrev pub module_of_ports : NewModule → NewPorts → ModuleRecord
module_of_ports new ports = record { name = new.name; kind = new.kind; params = new.params; inputs = ports.inputs; outputs = ports.outputs }

-- the netlist after the change
abbrev pub made : Circuit → Checked → Circuit
made n (NewWire name width level) = with_new_wire n name.now width level
made n (NoWire wire) = with_wire n wire.0 None
made n (Stimulus wire changes) = with_wire n wire.0 (option_map (with_stimulus changes.now) (wire_at n wire.0))
made n (NoStimulus wire) = with_wire n wire.0 (option_map without_stimulus (wire_at n wire.0))
made n (AddedModule new ports) = with_new_module n (module_of_ports new.now ports)
made n (NoModule part) = with_module n part.0 None
made n (Input part change) = with_module n part.0 (option_map (with_input change.port change.wire) (module_at n part.0))
made n (InputDelay part change) = with_module n part.0 (option_map (with_input_delay change.port change.delay) (module_at n part.0))
made n (Output part change) = with_module n part.0 (option_map (with_output change.port change.wire) (module_at n part.0))
made n (Delay part change) = with_module n part.0 (option_map (with_delay change.port change.delay) (module_at n part.0))
made n (NewBundle new) = with_new_bundle n (bundle_of new)
made n (NoBundle bundle) = with_bundle n bundle.0 None

-- nothing of its sort has the name of a new thing, and each time of a stimulus has 32 bits
abbrev pub IsNew : Circuit → Checked → Type 0
IsNew n (NewWire name width level) = wire_named n name.now ≡ None
IsNew n (Stimulus wire changes) = All (λ (change : ℕ × ℕ). change.0 < 2 ^ 32) changes.now
IsNew n (AddedModule new ports) = module_named n new.now.name ≡ None
IsNew n (NewBundle new) = bundle_named n new.name.now ≡ None
IsNew n other = Unit {0}

-- the change makes this of the netlist, which stays well formed
pub record Makes (n : Circuit) (change : Checked) (after : Circuit) : Type 0 where
  pub made : made n change ≡ after
  pub new : IsNew n change
  pub form : IsCircuit n → IsCircuit after
