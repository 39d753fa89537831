-- The ports of modules in a graph.
use Rattle.std.specs.Prelude.{ℕ, ◌+◌, ◌==◌, Bool, true, false, ◌&&◌, List, [], ◌++◌, Option, get_or, codes, if◌then◌else◌}
use Rattle.std.specs.Prelude as prelude
use Rattle.std.specs.Fmt.{decimal}
use Rattle.mp_modules.specs.declared.kind.Kind.{Kind}
use Rattle.mp_modules.specs.declared.kind.Kind.TheVariants as kinds
use Rattle.mp_modules.specs.declared.function.Function.TheVariants as functions
use Rattle.mp_records.specs.declared.module_record.ModuleRecord.{ModuleRecord}
use Rattle.mp_picture.specs.declared.edge_port.EdgePort.{EdgePort}
use Rattle.mp_picture.specs.declared.edge_port.EdgePort.TheVariants.{Whole, Input, Output}

-- the inputs of a kind whose ports differ, as cells before the module's name
abbrev pub input_cells : Kind → List ℕ
input_cells kinds.Toggle = codes "{{<i0>a}|"
input_cells kinds.Select = codes "{{<i0>a|<i1>diamond}|"
input_cells kinds.Call = codes "{{<i0>r1|<i1>r2|<i2>d}|"
input_cells kinds.Arbiter = codes "{{<i0>r1|<i1>r2|<i2>d1|<i3>d2}|"
input_cells kinds.Reg = codes "{{<i0>d|<i1>c|<i2>p}|"
input_cells (kinds.Function functions.Sub) = codes "{{<i0>a|<i1>b}|"
input_cells (kinds.Function functions.Less) = codes "{{<i0>a|<i1>b}|"
input_cells (kinds.Function functions.Join) = codes "{{<i0>a|<i1>b}|"
input_cells (kinds.Function functions.Mux) = codes "{{<i0>a|<i1>b|<i2>s}|"
input_cells _ = []

-- the ports of a kind differ, and are drawn as cells
abbrev pub has_cells : Kind → Bool
has_cells kinds.Toggle = true
has_cells kinds.Select = true
has_cells kinds.Call = true
has_cells kinds.Arbiter = true
has_cells kinds.Reg = true
has_cells (kinds.Function functions.Sub) = true
has_cells (kinds.Function functions.Less) = true
has_cells (kinds.Function functions.Mux) = true
has_cells (kinds.Function functions.Join) = true
has_cells _ = false

-- its outputs, as cells behind the module's kind
abbrev pub output_cells : Kind → List ℕ
output_cells kinds.Toggle = codes "|{<o0>dot|<o1>blank}}"
output_cells kinds.Select = codes "|{<o0>true|<o1>false}}"
output_cells kinds.Call = codes "|{<o0>r|<o1>d1|<o2>d2}}"
output_cells kinds.Arbiter = codes "|{<o0>g1|<o1>g2}}"
output_cells kinds.Reg = codes "|{<o0>q|<o1>cd|<o2>pd}}"
output_cells kind = if has_cells kind then codes "|{<o0>y}}" else []

-- where an edge meets a module: at the cell of a port, or anywhere
abbrev pub input_port : Option ModuleRecord → ℕ → EdgePort
input_port prelude.None p = Whole
input_port (prelude.Some r) p = if has_cells r.kind then Input p else Whole

abbrev pub output_port : Option ModuleRecord → ℕ → EdgePort
output_port prelude.None p = Whole
output_port (prelude.Some r) p = if has_cells r.kind then Output p else Whole

-- inputs are at the left, and outputs at the right
abbrev pub port_text : EdgePort → List ℕ
port_text Whole = []
port_text (Input p) = codes ":i" ++ (decimal p ++ codes ":w")
port_text (Output p) = codes ":o" ++ (decimal p ++ codes ":e")

-- an input of a C-element that is inverted
abbrev pub is_c : Kind → Bool
is_c kinds.C = true
is_c _ = false

abbrev pub is_bubble : ModuleRecord → ℕ → Bool
is_bubble r p = is_c r.kind && get_or r.params (p + 1) 0 == 1

-- such an input has a bubble
abbrev pub bubble : Option ModuleRecord → ℕ → List ℕ
bubble prelude.None p = []
bubble (prelude.Some r) p = if is_bubble r p then codes " arrowhead=odot" else []
