-- The pictures that commands write and questions ask for.
use Rattle.std.specs.Prelude.{ℕ, List, [], min}
use Rattle.mp_records.specs.declared.ids.WireId.{WireId}
use Rattle.mp_netlist.specs.Circuit.{Circuit}
use Rattle.mp_picture.specs.declared.columns.Columns.{Columns}
use Rattle.mp_picture.specs.declared.numerals.Numerals.{Numerals}
use Rattle.mp_picture.specs.ColumnRanges.{columns_in}
use Rattle.mp_picture.specs.Diagrams.{diagram}
use Rattle.mp_picture.specs.svg.Svg.{most_columns, svg}
use Rattle.mp_picture.specs.wave_json.WaveJson.{wave_json}
use Rattle.mp_model.specs.Findings.{findings}
use Rattle.mp_model.specs.declared.finding.Finding.{Finding}
use Rattle.mp_commands.specs.declared.views.drawing.Drawing.{Drawing}
use Rattle.mp_commands.specs.declared.views.drawing.Drawing.TheVariants.{Text, Svg, Json}
use Rattle.mp_commands.specs.views.AskedWires.{wires_of}

-- an SVG has 1,200 columns at most, however many are asked for
abbrev pub columns_drawn : Drawing → ℕ → ℕ
columns_drawn (Text charset) asked = asked
columns_drawn (Svg title) asked = min asked most_columns
columns_drawn Json asked = asked

-- what the report finds, where the picture has it
abbrev pub found_for : Drawing → Circuit → List Finding
found_for (Text charset) n = findings n
found_for (Svg title) n = findings n
found_for Json n = []

-- wires over columns, drawn so, with levels in these numerals
abbrev pub drawn : Circuit → Columns → List WireId → Drawing → Numerals → List ℕ
drawn n columns wires (Text charset) numerals = diagram n columns charset numerals wires
drawn n columns wires (Svg title) numerals = svg n columns numerals wires title.now []
drawn n columns wires Json numerals = wave_json n columns numerals wires

-- the picture of the wires of these names, or of all, from one time on to before another, in at most so many columns
abbrev pub picture_text : Circuit → List (List ℕ) → ℕ → ℕ → ℕ → Drawing → Numerals → List ℕ
picture_text n names from to asked drawing numerals = drawn n (columns_in n.horizon from to (columns_drawn drawing asked)) (wires_of n names) drawing numerals
