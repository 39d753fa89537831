-- The modules of a netlist, each as an instance of its kind's module.
use Rattle.std.specs.Prelude.{ℕ, ◌==◌, List, [], ◌++◌, Option, Some, None, codes, is_some, slice_index, if◌then◌else◌}
use Rattle.std.specs.List.{flat_map, range_with_len}
use Rattle.std.specs.Fmt.{decimal}
use Rattle.mp_modules.specs.Kinds.{has_width, input_count, output_count, param_count}
use Rattle.mp_records.specs.declared.ids.WireId.{WireId}
use Rattle.mp_records.specs.declared.wire_record.WireRecord.{WireRecord}
use Rattle.mp_records.specs.declared.module_record.ModuleRecord.{ModuleRecord}
use Rattle.mp_records.specs.declared.bundle_record.BundleRecord.{BundleRecord}
use Rattle.mp_records.specs.Inputs.{input_at}
use Rattle.mp_records.specs.Outputs.{output_at}
use Rattle.mp_netlist.specs.Circuit.{Circuit, wire_at, wire_named, module_width}
use Rattle.mp_exports.specs.verilog.Names.{identifier}
use Rattle.mp_exports.specs.verilog.Declarations.{level_text, register_text, wire_text}
use Rattle.mp_exports.specs.verilog.Kinds.{module_word}
use Rattle.mp_exports.specs.verilog.Ports.{input_name, output_name, param_name}

-- what stands before the item of this number: a comma where it isn't the first
abbrev pub comma : ℕ → List ℕ
comma k = if k == 0 then [] else codes ", "

-- what is given by name to a port or a parameter, as `.y(q)`
abbrev pub given : List ℕ → List ℕ → List ℕ
given name value = codes "." ++ (name ++ (codes "(" ++ (value ++ codes ")")))

-- ---- inputs

-- the copy of its wire that an input with a delay reads: no name of a netlist has a `$`
abbrev pub copy_name : ModuleRecord → ℕ → List ℕ
copy_name r p = r.name ++ (codes "$" ++ input_name r.kind p)

-- a register that has each level of a wire the delay later
abbrev pub copy_text : List ℕ → Option WireRecord → ℕ → List ℕ
copy_text name None delay = []
copy_text name (Some r) delay =
    register_text name r
    ++ (codes " always @(" ++ (identifier r.name ++ (codes ") " ++ (name ++ (codes " <= #" ++ (decimal delay ++ (codes " " ++ (identifier r.name ++ codes ";\n"))))))))

abbrev pub copy_line : Circuit → ModuleRecord → ℕ → List ℕ
copy_line n r p = if (input_at r p).delay == 0 then [] else copy_text (copy_name r p) (wire_at n (input_at r p).wire.0) (input_at r p).delay

abbrev pub read_text : Circuit → ModuleRecord → ℕ → List ℕ
read_text n r p = if (input_at r p).delay == 0 then wire_text n (input_at r p).wire.0 else copy_name r p

abbrev pub input_item : Circuit → ModuleRecord → ℕ → List ℕ
input_item n r p = comma p ++ given (input_name r.kind p) (read_text n r p)

-- ---- outputs

abbrev pub driven_text : Circuit → Option WireId → List ℕ
driven_text n None = []
driven_text n (Some w) = wire_text n w.0

abbrev pub output_item : Circuit → ModuleRecord → ℕ → List ℕ
output_item n r p = codes ", " ++ given (output_name r.kind p) (driven_text n (output_at r p).wire)

-- the initial level of the wire that stands in a slot, for this output
abbrev pub initial_text : List ℕ → Option WireRecord → List ℕ
initial_text name None = []
initial_text name (Some r) = codes ", " ++ given (name ++ codes "_initial") (level_text r.width r.initial)

abbrev pub first_text : Circuit → List ℕ → Option WireId → List ℕ
first_text n name None = []
first_text n name (Some w) = initial_text name (wire_at n w.0)

-- the delay of an output and, where it drives a wire, the level of that at first
abbrev pub delay_item : Circuit → ModuleRecord → ℕ → List ℕ
delay_item n r p =
    comma p ++ (given (output_name r.kind p ++ codes "_delay") (decimal (output_at r p).delay) ++ first_text n (output_name r.kind p) (output_at r p).wire)

-- ---- parameters

abbrev pub param_item : Circuit → ModuleRecord → ℕ → List ℕ
param_item n r k = codes ", " ++ given (param_name r.kind k) (level_text (module_width n r) (slice_index r.params k))

abbrev pub width_item : Circuit → ModuleRecord → List ℕ
width_item n r = if has_width r.kind then codes ", " ++ given (codes "W") (decimal (module_width n r)) else []

-- ---- lines

-- an instance has its module's name, with a `$` behind it where a wire has the name too
abbrev pub instance_name : Circuit → ModuleRecord → List ℕ
instance_name n r = if is_some (wire_named n r.name) then r.name ++ codes "$" else identifier r.name

abbrev pub copy_lines : Circuit → ModuleRecord → List ℕ
copy_lines n r = flat_map (copy_line n r) (range_with_len 0 (input_count r.kind))

abbrev pub values_text : Circuit → ModuleRecord → List ℕ
values_text n r = flat_map (delay_item n r) (range_with_len 0 (output_count r.kind)) ++ (flat_map (param_item n r) (range_with_len 0 (param_count r.kind)) ++ width_item n r)

abbrev pub ports_text : Circuit → ModuleRecord → List ℕ
ports_text n r = flat_map (input_item n r) (range_with_len 0 (input_count r.kind)) ++ flat_map (output_item n r) (range_with_len 0 (output_count r.kind))

-- the copies that its inputs read, and the instance
abbrev pub instance_lines : Circuit → Option ModuleRecord → List ℕ
instance_lines n None = []
instance_lines n (Some r) =
    copy_lines n r
    ++ (codes "  " ++ (module_word r.kind ++ (codes " #(" ++ (values_text n r
    ++ (codes ") " ++ (instance_name n r ++ (codes " (" ++ (ports_text n r ++ codes ");\n"))))))))

-- a bundle is a comment
abbrev pub bundle_line : Circuit → Option BundleRecord → List ℕ
bundle_line n None = []
bundle_line n (Some r) =
    codes "  // bundle " ++ (r.name ++ (codes ": request " ++ (wire_text n r.request.0 ++ (codes ", acknowledge " ++ (wire_text n r.acknowledge.0
    ++ (codes ", data " ++ (wire_text n r.payload.0 ++ (codes ", setup " ++ (decimal r.setup ++ codes "\n")))))))))
