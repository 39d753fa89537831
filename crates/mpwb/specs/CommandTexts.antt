-- What the commands write.
use Rattle.std.specs.Prelude.{ℕ, Bool, true, List, [], map, unwrap_or, nat_le, Option, Some, None, if◌then◌else◌, ◌&&◌}
use Rattle.mp_netlist.specs.Circuit.{Circuit}
use Rattle.mp_commands.specs.answers.Names.{Selected, selected_report, steady_text, dump, graph, verilog, waits, measure_of, waves_text, why_of, path_of, picture_text}
use Rattle.mp_commands.specs.views.CausePictures.{cause_picture}
use Rattle.mp_commands.specs.views.Chains.{is_begin}
use Rattle.mp_commands.specs.declared.views.drawing.Drawing.{Drawing}
use Rattle.mp_commands.specs.declared.views.drawing.Drawing.TheVariants as drawings
use Rattle.mp_picture.specs.declared.mark.Charset.TheVariants as charsets
use Rattle.mp_picture.specs.declared.numerals.Numerals.{Numerals}
use Rattle.mp_picture.specs.declared.numerals.Numerals.TheVariants.{Decimal, Hex}
use Rattle.mp_request.specs.declared.picture_words.PictureWords.{PictureWords}
use Rattle.mp_request.specs.declared.range_words.RangeWords.{RangeWords}
use Rattle.mp_request.specs.declared.request.Command.{Command}
use Rattle.mp_request.specs.declared.request.Command.TheVariants.{Waves, Report, Check, Dump, Show, Why, Path, Waits, Measure, Steady, Graph, Verilog}
use Rattle.mp_request.specs.AskedNames.{asked_names}
use Rattle.mp_text.specs.Limits.{max_columns, max_steps}

-- the names that a command speaks of, as they were given
abbrev pub names_in : Command → List (List ℕ)
names_in command = map (λ word. word.now) (asked_names command)

-- those of wires
abbrev pub wires_in : Command → List (List ℕ)
wires_in (Report words) = []
wires_in (Check words is_brief) = []
wires_in command = names_in command

-- those of modules and bundles
abbrev pub places_in : Command → List (List ℕ)
places_in (Report words) = names_in (Report words)
places_in (Check words is_brief) = names_in (Check words is_brief)
places_in command = []

-- the modules and bundles of these names, or all, in the range of the words
abbrev pub selection_of : RangeWords → List (List ℕ) → Selected
selection_of words names = record { from = words.from; to = words.to; names = names }

-- how a picture is drawn: as WaveJSON, as an SVG file, or as text of ASCII or of all characters
abbrev pub drawing_of : PictureWords → Drawing
drawing_of words =
    if words.json then drawings.Json
    else (if words.svg then drawings.Svg words.unit
    else (if words.ascii then drawings.Text charsets.Ascii else drawings.Text charsets.Unicode))

-- how levels are written
abbrev pub numerals_of : PictureWords → Numerals
numerals_of words = if words.hex then Hex else Decimal

-- the picture that is asked for, or the one with the causes of a level at a time
abbrev pub picture_of : PictureWords → List (List ℕ) → Option ℕ → Circuit → List ℕ
picture_of words names None = λ n. picture_text n names words.from words.to words.columns (drawing_of words) (numerals_of words)
picture_of words names (Some time) = λ n. cause_picture n names time words.from words.to words.columns words.unit.now (numerals_of words)

-- the text that a command writes of a netlist, if it writes one that the netlist determines
abbrev pub text_of : Command → Option (Circuit → List ℕ)
text_of Waves = Some waves_text
text_of (Report words) = Some (λ n. selected_report n (selection_of words (names_in (Report words))))
text_of Steady = Some steady_text
text_of (Dump scale) = Some (dump scale)
text_of Graph = Some graph
text_of Verilog = Some verilog
text_of (Show words) = Some (picture_of words (map (λ wire. wire.now) words.wires.items) words.causes)
text_of (Why wire time steps) = Some (λ n. why_of n wire.now time steps)
text_of (Path wire time from) = Some (λ n. path_of n wire.now time (unwrap_or from 0))
text_of (Waits time) = Some (λ n. waits n time)
text_of (Measure words) = Some (λ n. measure_of n words.from words.to (names_in (Measure words)))
text_of command = None

-- whether the numbers of a command are in their ranges
abbrev pub has_valid_numbers : Command → Bool
has_valid_numbers (Show words) = nat_le 1 words.columns && nat_le words.columns max_columns
has_valid_numbers (Why wire time steps) = nat_le 1 steps && nat_le steps max_steps
has_valid_numbers (Path wire time from) = is_begin from time
has_valid_numbers command = true
