-- A netlist as Verilog.
use Rattle.std.specs.Prelude.{ℕ, Bool, not, List, [], ◌++◌, Option, Some, None, codes, length, if◌then◌else◌}
use Rattle.std.specs.List.{flat_map, range_with_len}
use Rattle.std.specs.Fmt.{decimal}
use Rattle.mp_records.specs.declared.wire_record.WireRecord.{WireRecord}
use Rattle.mp_netlist.specs.Circuit.{Circuit, wire_at, module_at, bundle_at}
use Rattle.mp_netlist.specs.Drivers.{driver, is_port}
use Rattle.mp_exports.specs.verilog.Names.{identifier}
use Rattle.mp_exports.specs.verilog.Declarations.{level_text, range_text, register_text}
use Rattle.mp_exports.specs.verilog.Lists.{without_first}
use Rattle.mp_exports.specs.verilog.Kinds.{kinds_text}
use Rattle.mp_exports.specs.verilog.Instances.{given, instance_lines, bundle_line}

abbrev pub numbers : {T : Type 0} → List T → List ℕ
numbers slots = range_with_len 0 (length slots)

-- a wire that no port drives comes from outside
abbrev pub is_input : Circuit → ℕ → Bool
is_input n w = not (is_port (driver n w))

-- ---- the netlist's module

abbrev pub direction : Bool → List ℕ
direction is_input = if is_input then codes "input " else codes "output "

abbrev pub port_text : Bool → Option WireRecord → List ℕ
port_text is_input None = []
port_text is_input (Some r) = codes ",\n  " ++ (direction is_input ++ (range_text r.width ++ identifier r.name))

abbrev pub port_item : Circuit → ℕ → List ℕ
port_item n w = port_text (is_input n w) (wire_at n w)

unfoldable pub netlist_text : Circuit → List ℕ
netlist_text n =
    codes "\nmodule netlist (" ++ (without_first (flat_map (port_item n) (numbers n.wires)) ++ (codes "\n);\n"
    ++ (flat_map (λ m. instance_lines n (module_at n m)) (numbers n.modules)
    ++ (flat_map (λ b. bundle_line n (bundle_at n b)) (numbers n.bundles)
    ++ codes "endmodule\n"))))

-- ---- the test bench

abbrev pub register_in : Bool → Option WireRecord → List ℕ
register_in is_input None = []
register_in is_input (Some r) = if is_input then register_text (identifier r.name) r ++ codes "\n" else []

abbrev pub register_line : Circuit → ℕ → List ℕ
register_line n w = register_in (is_input n w) (wire_at n w)

abbrev pub connection_text : Bool → Option WireRecord → List ℕ
connection_text is_input None = []
connection_text is_input (Some r) = if is_input then codes ",\n    " ++ given (identifier r.name) (identifier r.name) else []

abbrev pub connection_item : Circuit → ℕ → List ℕ
connection_item n w = connection_text (is_input n w) (wire_at n w)

-- all changes of a stimulus are set at time 0, each to come about at its time
abbrev pub change_line : WireRecord → ℕ × ℕ → List ℕ
change_line r change = codes "    " ++ (identifier r.name ++ (codes " <= #" ++ (decimal change.0 ++ (codes " " ++ (level_text r.width change.1 ++ codes ";\n")))))

abbrev pub changes_text : WireRecord → Option (List (ℕ × ℕ)) → List ℕ
changes_text r None = []
changes_text r (Some changes) = flat_map (change_line r) changes

abbrev pub stimulus_lines : Option WireRecord → List ℕ
stimulus_lines None = []
stimulus_lines (Some r) = changes_text r r.stimulus

-- the bench ends once the changes of the last unit below the horizon have occurred
unfoldable pub bench_text : Circuit → List ℕ
bench_text n =
    codes "\nmodule bench;\n  reg last$ = 1'd0;\n" ++ (flat_map (register_line n) (numbers n.wires)
    ++ (codes "  netlist netlist$ (" ++ (without_first (flat_map (connection_item n) (numbers n.wires)) ++ (codes "\n  );\n"
    ++ (codes "  initial begin\n    $dumpfile(\"waves.vcd\");\n    $dumpvars(1, netlist$);\n"
    ++ (flat_map (λ w. stimulus_lines (wire_at n w)) (numbers n.wires)
    ++ (codes "    last$ <= #(" ++ (decimal n.horizon ++ codes " - 1) 1'd1;\n    @(last$) #0 $finish;\n  end\nendmodule\n"))))))))

-- the modules of its kinds, its own, and a test bench
unfoldable pub verilog : Circuit → List ℕ
verilog n = codes "`timescale 1ns/1ns\n" ++ (kinds_text n ++ (netlist_text n ++ bench_text n))
