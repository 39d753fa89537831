-- What questions are answered.
use Rattle.std.specs.Prelude.{◌+◌, ◌-◌, ◌∷◌, ◌++◌, ◌&&◌, if◌then◌else◌}
use Rattle.mp_commands.specs.answers.Names.{decimal, Edit, NoSuchWire, Circuit, wire_at, wire_named, PictureForm, Charset, Ascii, Unicode, Numerals, Decimal, Hex, missing_at, ℕ, Bool, List, [], length, Option, Some, None, nat_le, codes, wave, selected_report, Selected, waits, measure_of, dump, nanosecond, BadNumber, check_text, steady_text, Question, Wave, Waves, Text, Report, Check, Steady, Dump, Work, Show, Why, Path, Waits, Measure, Graph, Verilog, Version, Edits, written, graph, verilog, picture_text, why_of, path_of, slot_line, waves_text}
use Rattle.mp_commands.specs.declared.views.drawing.Drawing.TheVariants as drawings
use Rattle.mp_commands.specs.answers.WorkLines.{work_text}
use Rattle.mp_commands.specs.answers.EditAnswers.{edits_from}
use Rattle.mp_commands.specs.answers.Kept.{Kept}
use Rattle.mp_commands.specs.declared.answers.asked.AskedAnswer.{AskedAnswer}
use Rattle.mp_commands.specs.declared.answers.asked.AskedAnswer.TheVariants as askeds
use Rattle.mp_commands.specs.views.Views.{view_text, view_wires}
use Rattle.mp_commands.specs.answers.ShortReplies.{refused_text, unread_text}

-- the line of a wire, where it stands
abbrev pub wire_text : Circuit → Option ℕ → List ℕ
wire_text n None = refused_text NoSuchWire
wire_text n (Some w) = slot_line (wire_at n w) (wave n w)

-- a text of wires that are asked for, where none is missing
abbrev pub asked_text : Option ℕ → List ℕ → List ℕ
asked_text None text = text
asked_text (Some place) text = refused_text NoSuchWire

-- `version` and how many edits were accepted
abbrev pub version_text : ℕ → List ℕ
version_text number = codes "version " ++ (decimal number ++ (10 ∷ []))

-- whether accepted edits have this number, or the next one will have it
abbrev pub is_edit_number : List Edit → ℕ → Bool
is_edit_number edits number = nat_le 1 number && nat_le number (length edits + 1)

-- the accepted edits from a number on
abbrev pub edits_text : List Edit → ℕ → List ℕ
edits_text edits from = if is_edit_number edits from then edits_from edits (from - 1) else unread_text BadNumber

-- all modules and bundles at the times from one to before another
abbrev pub all_between : ℕ → ℕ → Selected
all_between from to = record { from = from; to = to; names = [] }

-- the characters and the numerals of a picture
abbrev pub charset_of : PictureForm → Charset
charset_of form = if form.is_ascii then Ascii else Unicode

abbrev pub numerals_of : PictureForm → Numerals
numerals_of form = if form.is_hex then Hex else Decimal

abbrev pub shown_text : Circuit → ℕ → ℕ → List (List ℕ) → PictureForm → List ℕ
shown_text n from to wires form = picture_text n wires from to form.columns (drawings.Text (charset_of form)) (numerals_of form)

-- the answer to a question
abbrev pub answer_text : Kept → Question → List ℕ
answer_text kept (Wave name) = wire_text kept.netlist (wire_named kept.netlist name)
answer_text kept Waves = waves_text kept.netlist
answer_text kept Text = written kept.netlist
answer_text kept (Report from to) = selected_report kept.netlist (all_between from to)
answer_text kept (Check is_brief from to) = check_text kept.netlist (all_between from to) is_brief
answer_text kept Steady = steady_text kept.netlist
answer_text kept Dump = dump nanosecond kept.netlist
answer_text kept Work = work_text kept.netlist kept.work
answer_text kept (Show from to wires form) = asked_text (missing_at kept.netlist wires) (shown_text kept.netlist from to wires form)
answer_text kept (Waits time) = waits kept.netlist time
answer_text kept (Measure from to wires) = asked_text (missing_at kept.netlist wires) (measure_of kept.netlist from to wires)
answer_text kept (Why wire time steps) = asked_text (missing_at kept.netlist (wire ∷ [])) (why_of kept.netlist wire time steps)
answer_text kept (Path wire time from) = asked_text (missing_at kept.netlist (wire ∷ [])) (path_of kept.netlist wire time from)
answer_text kept Graph = graph kept.netlist
answer_text kept Verilog = verilog kept.netlist
answer_text kept Version = version_text (length kept.edits)
answer_text kept (Edits from) = edits_text kept.edits from

-- the text of what a question asks for
abbrev pub asked_answer : AskedAnswer → Kept → List ℕ
asked_answer (askeds.View view) kept = asked_text (missing_at kept.netlist (view_wires view)) (view_text view kept.netlist)
asked_answer (askeds.Wire name) kept = wire_text kept.netlist (wire_named kept.netlist name.now)
asked_answer askeds.Netlist kept = written kept.netlist
asked_answer askeds.Work kept = work_text kept.netlist kept.work
asked_answer askeds.Version kept = version_text (length kept.edits)
asked_answer (askeds.Edits from) kept = edits_text kept.edits from
