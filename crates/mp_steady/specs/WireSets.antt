-- Sets of wires that depend on no others: whole sets, and the control.
use Rattle.std.specs.Prelude.{ℕ, Bool, false, ◌&&◌, ◌==◌, List, [], ◌∷◌, ◌++◌, map, filter, length, take, drop, nat_lt, is_some, Option, Some, None, if◌then◌else◌}
use Rattle.std.specs.List.{list_all, list_any, range_with_len}
use Rattle.mp_modules.specs.declared.kind.Kind.{Kind}
use Rattle.mp_modules.specs.declared.kind.Kind.TheVariants as kinds
use Rattle.mp_records.specs.declared.ids.WireId.{WireId}
use Rattle.mp_records.specs.declared.module_record.ModuleRecord.{ModuleRecord}
use Rattle.mp_records.specs.declared.ports.Input.{Input}
use Rattle.mp_netlist.specs.declared.driver.Driver.{Driver}
use Rattle.mp_netlist.specs.declared.driver.Driver.TheVariants.{Nothing, Stimulus, Port}
use Rattle.mp_netlist.specs.Circuit.{Circuit, wire_at, module_at, width_of}
use Rattle.mp_netlist.specs.Drivers.{driver}

-- a REG's cd and pd each pass one input on
abbrev pub passes_on : Kind → ℕ → Bool
passes_on kinds.Reg p = nat_lt 0 p
passes_on _ p = false

-- the inputs that an output depends on: of a REG's cd its c, of its pd its p, and of each other output all of its module
abbrev pub port_inputs : ModuleRecord → ℕ → List Input
port_inputs r p = if passes_on r.kind p then take 1 (drop p r.inputs) else r.inputs

abbrev pub inputs_in : ℕ → Option ModuleRecord → List Input
inputs_in p None = []
inputs_in p (Some r) = port_inputs r p

abbrev pub inputs_by : Circuit → Driver → List Input
inputs_by n Nothing = []
inputs_by n Stimulus = []
inputs_by n (Port m p) = inputs_in p (module_at n m.0)

-- the inputs that a wire depends on, none where no port drives it
abbrev pub wire_inputs : Circuit → ℕ → List Input
wire_inputs n w = inputs_by n (driver n w)

-- the numbers of wires
abbrev pub numbers : List WireId → List ℕ
numbers wires = map (λ (w : WireId). w.0) wires

-- a wire is among these
abbrev pub has_wire : List ℕ → ℕ → Bool
has_wire wires w = list_any (λ v. v == w) wires

-- what a wire depends on is among these
abbrev pub has_inputs : Circuit → List ℕ → ℕ → Bool
has_inputs n wires w = list_all (λ (i : Input). has_wire wires i.wire.0) (wire_inputs n w)

-- with each wire of a whole set, the wires that it depends on are in it
abbrev pub is_whole : Circuit → List ℕ → Bool
is_whole n wires = list_all (has_inputs n wires) wires

-- the numbers of all wires
abbrev pub all_wires : Circuit → List ℕ
all_wires n = filter (λ w. is_some (wire_at n w)) (range_with_len 0 (length n.wires))

-- a wire of width 1
abbrev pub has_events : Circuit → ℕ → Bool
has_events n w = width_of (wire_at n w) == 1

-- all sets of these wires
abbrev pub subsets : List ℕ → List (List ℕ)
subsets [] = [] ∷ []
subsets (w ∷ ws) = subsets ws ++ map (λ wires. w ∷ wires) (subsets ws)

-- a whole set has all wires of width 1
abbrev pub has_control : Circuit → List ℕ → Bool
has_control n wires = is_whole n wires && list_all (has_wire wires) (filter (has_events n) (all_wires n))

-- the control: the wires that are in each whole set that has all wires of width 1
unfoldable pub control : Circuit → List ℕ
control n = filter (λ w. list_all (λ wires. has_wire wires w) (filter (has_control n) (subsets (all_wires n)))) (all_wires n)
