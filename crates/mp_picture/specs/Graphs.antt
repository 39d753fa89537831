-- A netlist as a graph, in the language of Graphviz.
use Rattle.std.specs.Prelude.{ℕ, Bool, true, false, ◌&&◌, ◌==◌, List, [], ◌∷◌, ◌++◌, Option, Some, None, codes, if◌then◌else◌}
use Rattle.std.specs.List.{flat_map}
use Rattle.std.specs.Fmt.{decimal}
use Rattle.mp_modules.specs.declared.kind.Kind.{Kind}
use Rattle.mp_modules.specs.declared.kind.Kind.TheVariants as kinds
use Rattle.mp_modules.specs.declared.function.Function.{Function}
use Rattle.mp_modules.specs.declared.function.Function.TheVariants as functions
use Rattle.mp_modules.specs.Kinds.{word_of}
use Rattle.mp_records.specs.declared.ids.ModuleId.{ModuleId}
use Rattle.mp_records.specs.declared.ids.WireId.{WireId}
use Rattle.mp_records.specs.Inputs.{input_at}
use Rattle.mp_records.specs.Outputs.{delay_of}
use Rattle.mp_records.specs.declared.module_record.ModuleRecord.{ModuleRecord}
use Rattle.mp_records.specs.declared.bundle_record.BundleRecord.{BundleRecord}
use Rattle.mp_records.specs.declared.wire_record.WireRecord.{WireRecord}
use Rattle.mp_netlist.specs.declared.driver.Driver.{Driver}
use Rattle.mp_netlist.specs.declared.driver.Driver.TheVariants.{Nothing, Stimulus, Port}
use Rattle.mp_netlist.specs.Circuit.{Circuit, module_at, wire_at}
use Rattle.mp_netlist.specs.Drivers.{driver, is_port}
use Rattle.mp_netlist.specs.Readers.{readers}
use Rattle.mp_text.specs.Written.{wire_name}
use Rattle.mp_picture.specs.declared.edge_port.EdgePort.{EdgePort}
use Rattle.mp_picture.specs.declared.edge_port.EdgePort.TheVariants.{Whole}
use Rattle.mp_picture.specs.Found.{module_name}
use Rattle.mp_picture.specs.GraphPorts.{input_cells, output_cells, input_port, output_port, port_text, bubble}

-- the node of what has a name, between quotes
abbrev pub id : List ℕ → List ℕ → List ℕ
id kind name = 34 ∷ (kind ++ (name ++ (34 ∷ [])))

-- what the line of a node begins with, up to its label
abbrev pub node_start : List ℕ → List ℕ → List ℕ
node_start kind name = codes "  " ++ (id kind name ++ (codes " [label=" ++ (34 ∷ [])))

-- the line of a node with a label, between quotes, and other attributes
abbrev pub node : List ℕ → List ℕ → List ℕ → List ℕ → List ℕ
node kind name label attributes = node_start kind name ++ (label ++ (34 ∷ (attributes ++ (codes "];" ++ (10 ∷ [])))))

-- two lines of a label
abbrev pub two_lines : List ℕ → List ℕ → List ℕ
two_lines first second = first ++ (92 ∷ 110 ∷ second)

-- ---- modules

-- the shape of a kind, as an attribute: a triangle points to the right
abbrev pub function_shape : Function → List ℕ
function_shape functions.Buf = codes " shape=triangle orientation=270 margin=0"
function_shape functions.Not = codes " shape=triangle orientation=270 margin=0"
function_shape functions.Xor = codes " shape=diamond"
function_shape functions.Sub = codes " shape=record"
function_shape functions.Less = codes " shape=record"
function_shape functions.Mux = codes " shape=record"
function_shape functions.Join = codes " shape=record"
function_shape _ = codes " shape=ellipse"

abbrev pub shape_of : Kind → List ℕ
shape_of kinds.C = codes " shape=circle"
shape_of kinds.Reg = codes " shape=record"
shape_of kinds.Toggle = codes " shape=record"
shape_of kinds.Select = codes " shape=record"
shape_of kinds.Call = codes " shape=record"
shape_of kinds.Arbiter = codes " shape=record"
shape_of (kinds.Function function) = function_shape function

-- numbers, each behind a space
abbrev pub params_text : List ℕ → List ℕ
params_text params = flat_map (λ param. 32 ∷ decimal param) params

-- a module's name, and its kind with its parameters, between the ports of its kind where they differ
abbrev pub module_label : ModuleRecord → List ℕ
module_label r = input_cells r.kind ++ two_lines r.name (word_of r.kind ++ (params_text r.params ++ output_cells r.kind))

abbrev pub module_node : Option ModuleRecord → List ℕ
module_node None = []
module_node (Some r) = node (codes "module ") r.name (module_label r) (shape_of r.kind)

-- ---- where a wire begins

-- the module that drives it, or the wire's own node
abbrev pub tail_kind : Driver → List ℕ
tail_kind Nothing = codes "wire "
tail_kind Stimulus = codes "wire "
tail_kind (Port m p) = codes "module "

abbrev pub name_of : Circuit → ℕ → List ℕ
name_of n w = wire_name n (record { 0 = w })

abbrev pub tail_name : Circuit → ℕ → Driver → List ℕ
tail_name n w Nothing = name_of n w
tail_name n w Stimulus = name_of n w
tail_name n w (Port m p) = module_name (module_at n m.0)

abbrev pub tail_port : Circuit → Driver → EdgePort
tail_port n Nothing = Whole
tail_port n Stimulus = Whole
tail_port n (Port m p) = output_port (module_at n m.0) p

-- a node, and where an edge meets it
abbrev pub end : List ℕ → List ℕ → EdgePort → List ℕ
end kind name port = id kind name ++ port_text port

abbrev pub tail : Circuit → ℕ → Driver → List ℕ
tail n w from = end (tail_kind from) (tail_name n w from) (tail_port n from)

-- the delay of a port
abbrev pub input_delay : Option ModuleRecord → ℕ → ℕ
input_delay None p = 0
input_delay (Some r) p = (input_at r p).delay

abbrev pub output_delay : Option ModuleRecord → ℕ → ℕ
output_delay None p = 1
output_delay (Some r) p = delay_of r p

-- the delay of the port that drives a wire, if one does
abbrev pub tail_delay : Circuit → Driver → Option ℕ
tail_delay n Nothing = None
tail_delay n Stimulus = None
tail_delay n (Port m p) = Some (output_delay (module_at n m.0) p)

-- ---- wires that no port drives or no module reads

abbrev pub has_some : List (ModuleId × ℕ) → Bool
has_some [] = false
has_some (reader ∷ others) = true

-- a port drives the wire, and a module reads it
abbrev pub is_inner : Circuit → ℕ → Bool
is_inner n w = is_port (driver n w) && has_some (readers n w)

abbrev pub source_node : List ℕ → List ℕ
source_node name = node (codes "wire ") name name (codes " shape=plaintext")

-- the edge from the port that drives a wire to the wire's own node, with the port's delay
abbrev pub own_edge : Circuit → ℕ → Driver → List ℕ
own_edge n w Nothing = []
own_edge n w Stimulus = []
own_edge n w (Port m p) =
    let delay = output_delay (module_at n m.0) p in
    codes "  " ++ (tail n w (Port m p) ++ (codes " -> "
    ++ (id (codes "wire ") (name_of n w) ++ (codes " [label=" ++ (34 ∷ 47 ∷ (decimal delay ++ (34 ∷ (codes "];" ++ (10 ∷ [])))))))))

abbrev pub own_lines : Circuit → ℕ → Driver → List ℕ
own_lines n w from = source_node (name_of n w) ++ own_edge n w from

-- a node of its own, with an edge to it from the port that drives it, if one does
abbrev pub slot_lines : Circuit → ℕ → Option WireRecord → List ℕ
slot_lines n w None = []
slot_lines n w (Some r) = if is_inner n w then [] else own_lines n w (driver n w)

abbrev pub wire_lines : Circuit → ℕ → List ℕ
wire_lines n w = slot_lines n w (wire_at n w)

-- ---- reads

-- the name of a wire that a port drives, with the port's delay, as `q1/2`
unfoldable pub driven_name : List ℕ → Option ℕ → List ℕ
driven_name name None = []
driven_name name (Some delay) = name ++ (47 ∷ decimal delay)

-- the delay of an input, as `+4`, where it has one
abbrev pub more_text : ℕ → List ℕ
more_text delay = if delay == 0 then [] else 43 ∷ decimal delay

abbrev pub edge_label : List ℕ → Option ℕ → ℕ → List ℕ
edge_label name driven delay = codes " [label=" ++ (34 ∷ (driven_name name driven ++ (more_text delay ++ (34 ∷ []))))

-- the nodes that a read joins
abbrev pub ends : Circuit → ℕ → Driver → ModuleId → ℕ → List ℕ
ends n w from m p = codes "  " ++ (tail n w from ++ (codes " -> " ++ end (codes "module ") (module_name (module_at n m.0)) (input_port (module_at n m.0) p)))

-- the line of a read: from where a wire begins to the module that reads it, with a bubble where it is inverted
abbrev pub edge : Circuit → ℕ → Driver → ModuleId × ℕ → List ℕ
edge n w from (m, p) =
    ends n w from m p
    ++ (edge_label (name_of n w) (tail_delay n from) (input_delay (module_at n m.0) p) ++ (bubble (module_at n m.0) p ++ (codes "];" ++ (10 ∷ []))))

-- a line for each read of a wire
abbrev pub wire_edges : Circuit → ℕ → List ℕ
wire_edges n w = flat_map (edge n w (driver n w)) (readers n w)

-- ---- bundles

-- the name and the setup of a bundle above its three wires
abbrev pub bundle_label : Circuit → BundleRecord → List ℕ
bundle_label n r =
    two_lines r.name (codes "setup " ++ (decimal r.setup
    ++ (codes "|<r>" ++ (wire_name n r.request ++ (codes "|<a>" ++ (wire_name n r.acknowledge ++ (codes "|<d>" ++ wire_name n r.payload)))))))

abbrev pub bundle_node : Circuit → BundleRecord → List ℕ
bundle_node n r = node (codes "bundle ") r.name (bundle_label n r) (codes " shape=record style=dashed")

-- a line from where a wire begins to its cell in a bundle
abbrev pub bundle_edge : Circuit → List ℕ → WireId → List ℕ → List ℕ
bundle_edge n name wire cell =
    codes "  " ++ (tail n wire.0 (driver n wire.0) ++ (codes " -> "
    ++ (id (codes "bundle ") name ++ (cell ++ (codes " [style=dashed color=gray50 arrowhead=none];" ++ (10 ∷ []))))))

abbrev pub bundle_lines : Circuit → Option BundleRecord → List ℕ
bundle_lines n None = []
bundle_lines n (Some r) =
    bundle_node n r
    ++ (bundle_edge n r.name r.request (codes ":r:w") ++ (bundle_edge n r.name r.acknowledge (codes ":a:w") ++ bundle_edge n r.name r.payload (codes ":d:w")))
