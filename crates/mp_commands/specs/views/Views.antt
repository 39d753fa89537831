-- The text of each view, and the wires that it speaks of.
use Rattle.std.specs.Prelude.{ℕ, List, [], ◌∷◌}
use Rattle.mp_netlist.specs.Circuit.{Circuit}
use Rattle.mp_check.specs.CheckTexts.{selected_report}
use Rattle.mp_check.specs.Selections.{selected}
use Rattle.mp_steady.specs.SteadyLines.{steady_text}
use Rattle.mp_exports.specs.vcd.Dumps.{dump}
use Rattle.mp_exports.specs.verilog.Verilog.{verilog}
use Rattle.mp_picture.specs.GraphSections.{graph}
use Rattle.mp_questions.specs.timing.Waits.{waits}
use Rattle.mp_commands.specs.declared.views.view.View.{View}
use Rattle.mp_commands.specs.declared.views.view.View.TheVariants as views
use Rattle.mp_commands.specs.views.CausePictures.{cause_picture}
use Rattle.mp_commands.specs.views.Chains.{path_of, why_of}
use Rattle.mp_commands.specs.views.Checks.{check_of}
use Rattle.mp_commands.specs.views.Measured.{measure_of}
use Rattle.mp_commands.specs.views.Outputs.{waves_text}
use Rattle.mp_commands.specs.views.Pictures.{picture_text}

-- the text of a view of a netlist
abbrev pub view_text : View → Circuit → List ℕ
view_text views.Waves n = waves_text n
view_text (views.Report selection) n = selected_report n (selected selection)
view_text (views.Check asked) n = check_of asked n
view_text views.Steady n = steady_text n
view_text (views.Dump scale) n = dump scale n
view_text views.Graph n = graph n
view_text views.Verilog n = verilog n
view_text (views.Picture shown) n = picture_text n shown.asked.wires.now shown.asked.from shown.asked.to shown.asked.columns shown.drawing shown.numerals
view_text (views.CausePicture shown) n =
    cause_picture n shown.asked.wires.now shown.time shown.asked.from shown.asked.to shown.asked.columns shown.title.now shown.numerals
view_text (views.Why lines) n = why_of n lines.wire.now lines.time lines.steps
view_text (views.Path lines) n = path_of n lines.wire.now lines.time lines.from
view_text (views.Waits time) n = waits n time
view_text (views.Measure lines) n = measure_of n lines.range.from lines.range.to lines.wires.now

-- the names of the wires that it speaks of
abbrev pub view_wires : View → List (List ℕ)
view_wires (views.Picture shown) = shown.asked.wires.now
view_wires (views.CausePicture shown) = shown.asked.wires.now
view_wires (views.Why lines) = lines.wire.now ∷ []
view_wires (views.Path lines) = lines.wire.now ∷ []
view_wires (views.Measure lines) = lines.wires.now
view_wires view = []

-- the names of modules and bundles to which it is restricted
abbrev pub view_places : View → List (List ℕ)
view_places (views.Report selection) = selection.names.now
view_places (views.Check asked) = asked.selection.names.now
view_places view = []
