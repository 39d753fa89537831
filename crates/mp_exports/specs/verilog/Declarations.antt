-- Levels and wires, as Verilog has them.
use Rattle.std.specs.Prelude.{ℕ, ◌-◌, ◌==◌, List, [], ◌++◌, Option, Some, None, codes, if◌then◌else◌}
use Rattle.std.specs.Fmt.{decimal}
use Rattle.mp_records.specs.declared.wire_record.WireRecord.{WireRecord}
use Rattle.mp_netlist.specs.Circuit.{Circuit, wire_at}
use Rattle.mp_exports.specs.verilog.Names.{identifier}

-- a level of a width, as `8'd5`
abbrev pub level_text : ℕ → ℕ → List ℕ
level_text width level = decimal width ++ (codes "'d" ++ decimal level)

-- the bits of a width, as `[7:0] `, and nothing for a single one
abbrev pub range_text : ℕ → List ℕ
range_text width = if width == 1 then [] else codes "[" ++ (decimal (width - 1) ++ codes ":0] ")

-- a register for the levels of a wire, with the initial one
abbrev pub register_text : List ℕ → WireRecord → List ℕ
register_text name r = codes "  reg " ++ (range_text r.width ++ (name ++ (codes " = " ++ (level_text r.width r.initial ++ codes ";"))))

abbrev pub name_in : Option WireRecord → List ℕ
name_in None = []
name_in (Some r) = identifier r.name

-- what the wire of this number is called
abbrev pub wire_text : Circuit → ℕ → List ℕ
wire_text n w = name_in (wire_at n w)
