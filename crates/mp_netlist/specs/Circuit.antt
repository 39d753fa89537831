-- A netlist without where it lies in memory.
use Rattle.std.specs.Prelude.{◌≡◌, ℕ, ◌<◌, ◌≤◌, List, [], Option, Some, None, true, All, IsSome, IfSome, IsTrue, length, slice_index_or, option_and_then}
use Rattle.mp_modules.specs.Kinds.{input_count, output_count, width_from, input_width, output_width, are_params}
use Rattle.mp_records.specs.declared.ports.Input.{Input}
use Rattle.mp_records.specs.declared.wire_record.WireRecord.{WireRecord}
use Rattle.mp_records.specs.declared.module_record.ModuleRecord.{ModuleRecord}
use Rattle.mp_records.specs.declared.bundle_record.BundleRecord.{BundleRecord}
use Rattle.mp_records.specs.Inputs.{input_at}
use Rattle.mp_records.specs.Outputs.{output_at}
use Rattle.mp_records.specs.Names.{is_name}
use Rattle.mp_modules.specs.Levels.{fits_width}
use Rattle.mp_records.specs.Stimuli.{is_stimulus}
use Rattle.mp_netlist.specs.declared.format.Format.{Format}
use Rattle.mp_netlist.specs.Limits.{horizon_limit, wire_limit, module_limit, bundle_limit, max_delay, max_setup}
use Rattle.mp_netlist.specs.Slots.{slot_at, number_named}

-- the format, the horizon, and a slot for each number of a wire, a module and a bundle
pub record Circuit : Type 0 where
  pub format : Format
  pub horizon : ℕ
  pub wires : List (Option WireRecord)
  pub modules : List (Option ModuleRecord)
  pub bundles : List (Option BundleRecord)

abbrev pub empty_circuit : Format → ℕ → Circuit
empty_circuit format horizon = record { format = format; horizon = horizon; wires = []; modules = []; bundles = [] }

abbrev pub wire_at : Circuit → ℕ → Option WireRecord
wire_at n w = slot_at n.wires w

abbrev pub module_at : Circuit → ℕ → Option ModuleRecord
module_at n m = slot_at n.modules m

abbrev pub bundle_at : Circuit → ℕ → Option BundleRecord
bundle_at n b = slot_at n.bundles b

abbrev pub wire_named : Circuit → List ℕ → Option ℕ
wire_named n name = number_named (λ (r : WireRecord). r.name) n.wires name

abbrev pub module_named : Circuit → List ℕ → Option ℕ
module_named n name = number_named (λ (r : ModuleRecord). r.name) n.modules name

abbrev pub bundle_named : Circuit → List ℕ → Option ℕ
bundle_named n name = number_named (λ (r : BundleRecord). r.name) n.bundles name

-- the width of what stands in a wire's slot, 0 where nothing does
abbrev pub width_of : Option WireRecord → ℕ
width_of None = 0
width_of (Some wire) = wire.width

-- the width of a module, from that of the wire at its first input
abbrev pub module_width : Circuit → ModuleRecord → ℕ
module_width n r = width_from r.kind (width_of (wire_at n (input_at r 0).wire.0))

-- a delay that an output may have
abbrev pub IsDelay : ℕ → Type 0
IsDelay d = (0 < d) × (d ≤ max_delay)

-- a delay that an input may have
abbrev pub IsInputDelay : ℕ → Type 0
IsInputDelay d = d ≤ max_delay

-- a wire has a width, a level of this width, and a stimulus of this width below the horizon, if any
pub record IsWire (horizon : ℕ) (r : WireRecord) : Type 0 where
  pub wide : 1 ≤ r.width
  pub narrow : r.width ≤ 64
  pub level : IsTrue (fits_width r.width r.initial)
  pub stimulus : IfSome r.stimulus (λ changes. IsTrue (is_stimulus horizon r.width 0 changes))

-- a wire of this width stands under the number
abbrev pub HasWidth : Circuit → ℕ → ℕ → Type 0
HasWidth n w width = IsSome (wire_at n w) × (width_of (wire_at n w) ≡ width)

-- a module has the ports and parameters of its kind, with delays, and at wires of its ports' widths
pub record IsModule (n : Circuit) (r : ModuleRecord) : Type 0 where
  pub inputs : length r.inputs ≡ input_count r.kind
  pub outputs : length r.outputs ≡ output_count r.kind
  pub params : IsTrue (are_params r.kind (module_width n r) r.params)
  pub input_delays : All (λ i. IsInputDelay i.delay) r.inputs
  pub delays : All (λ o. IsDelay o.delay) r.outputs
  pub reads : (p : ℕ) (i : Input) → p < length r.inputs → HasWidth n (slice_index_or r.inputs p i).wire.0 (input_width r.kind (module_width n r) p)
  pub drives : (p : ℕ) → IfSome (output_at r p).wire (λ w. HasWidth n w.0 (output_width r.kind (module_width n r) p))

-- a bundle has request and acknowledge wires of width 1, a payload of any width, and a setup that a bundle may have
pub record IsBundle (n : Circuit) (r : BundleRecord) : Type 0 where
  pub request : HasWidth n r.request.0 1
  pub acknowledge : HasWidth n r.acknowledge.0 1
  pub payload : IsSome (wire_at n r.payload.0)
  pub setup : r.setup ≤ max_setup

-- the port p of the module m has the wire w as its output
pub record Drives (n : Circuit) (m p w : ℕ) : Type 0 where
  pub part : ModuleRecord
  pub stands : module_at n m ≡ Some part
  pub output : (output_at part p).wire ≡ Some (record { 0 = w })

-- what is set from outside on what stands in a wire's slot
abbrev pub stimulus_in : Option WireRecord → Option (List (ℕ × ℕ))
stimulus_in slot = option_and_then (λ (r : WireRecord). r.stimulus) slot

-- what is set on the wire from outside
abbrev pub stimulus_at : Circuit → ℕ → Option (List (ℕ × ℕ))
stimulus_at n w = stimulus_in (wire_at n w)

-- what stands has a name, and no two wires have one name, no two modules and no two bundles
pub record HasNames (n : Circuit) : Type 0 where
  pub wires : (w : ℕ) (r : WireRecord) → wire_at n w ≡ Some r → is_name r.name ≡ true
  pub modules : (m : ℕ) (r : ModuleRecord) → module_at n m ≡ Some r → is_name r.name ≡ true
  pub bundles : (b : ℕ) (r : BundleRecord) → bundle_at n b ≡ Some r → is_name r.name ≡ true
  pub one_wire : (w v : ℕ) (r s : WireRecord) → wire_at n w ≡ Some r → wire_at n v ≡ Some s → r.name ≡ s.name → w ≡ v
  pub one_module : (m k : ℕ) (r s : ModuleRecord) → module_at n m ≡ Some r → module_at n k ≡ Some s → r.name ≡ s.name → m ≡ k
  pub one_bundle : (b c : ℕ) (r s : BundleRecord) → bundle_at n b ≡ Some r → bundle_at n c ≡ Some s → r.name ≡ s.name → b ≡ c

-- what holds of every netlist
pub record IsCircuit (n : Circuit) : Type 0 where
  pub horizon_low : 1 ≤ n.horizon
  pub horizon_high : n.horizon ≤ horizon_limit n.format
  pub wires_ok : (w : ℕ) (r : WireRecord) → wire_at n w ≡ Some r → IsWire n.horizon r
  pub modules_ok : (m : ℕ) (r : ModuleRecord) → module_at n m ≡ Some r → IsModule n r
  pub bundles_ok : (b : ℕ) (r : BundleRecord) → bundle_at n b ≡ Some r → IsBundle n r
  pub names : HasNames n
  pub one_port : (m p k q w : ℕ) → Drives n m p w → Drives n k q w → (m ≡ k) × (p ≡ q)
  pub port_or_stimulus : (m p w : ℕ) → Drives n m p w → stimulus_at n w ≡ None
  pub wires_few : length n.wires ≤ wire_limit n.format
  pub modules_few : length n.modules ≤ module_limit n.format
  pub bundles_few : length n.bundles ≤ bundle_limit n.format
