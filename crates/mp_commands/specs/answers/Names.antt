-- The names that many clauses and definitions here cite, passed on from one place. Declares nothing.
pub use Rattle.std.specs.Fmt.{decimal}
pub use Rattle.std.specs.List.{flat_map, slice_get}
pub use Rattle.std.specs.Prelude.{Bool, List, None, Option, Some, [], codes, drop, if◌then◌else◌, length, nat_le, unwrap_or, ℕ, ◌&&◌, ◌++◌, ◌+◌, ◌-◌, ◌∷◌}
pub use Rattle.mp_check.specs.CheckTexts.{check_text, selected_report}
pub use Rattle.mp_check.specs.Selections.{Selected, selected}
pub use Rattle.mp_steady.specs.SteadyLines.{steady_text}
pub use Rattle.mp_text.specs.edit_lines.EditLines.{edit_text}
pub use Rattle.mp_model.specs.Waves.{wave}
pub use Rattle.mp_netlist.specs.Circuit.{Circuit, module_at, wire_at, wire_named}
pub use Rattle.mp_picture.specs.GraphSections.{graph}
pub use Rattle.mp_picture.specs.declared.mark.Charset.{Charset}
pub use Rattle.mp_picture.specs.declared.mark.Charset.TheVariants.{Ascii, Unicode}
pub use Rattle.mp_picture.specs.declared.numerals.Numerals.{Numerals}
pub use Rattle.mp_picture.specs.declared.numerals.Numerals.TheVariants.{Decimal, Hex}
pub use Rattle.mp_records.specs.declared.edit.Edit.{Edit}
pub use Rattle.mp_records.specs.declared.edit_error.EditError.{EditError}
pub use Rattle.mp_records.specs.declared.edit_error.EditError.TheVariants.{InBatch, NoSuchWire}
pub use Rattle.mp_records.specs.declared.module_record.ModuleRecord.{ModuleRecord}
pub use Rattle.mp_streams.specs.Outgoing.{Writes}
pub use Rattle.mp_text.specs.PictureForms.{PictureForm}
pub use Rattle.mp_text.specs.Written.{written}
pub use Rattle.mp_text.specs.declared.question.Question.{Question}
pub use Rattle.mp_text.specs.declared.question.Question.TheVariants.{Check, Dump, Edits, Graph, Measure, Path, Report, Show, Steady, Text, Verilog, Version, Waits, Wave, Waves, Why, Work}
pub use Rattle.mp_questions.specs.timing.Waits.{waits}
pub use Rattle.mp_exports.specs.vcd.Dumps.{dump}
pub use Rattle.mp_exports.specs.vcd.Timescales.{nanosecond}
pub use Rattle.mp_exports.specs.verilog.Verilog.{verilog}
pub use Rattle.mp_version.specs.Stories.{Story, present}
pub use Rattle.mp_commands.specs.views.AskedWires.{missing_at}
pub use Rattle.mp_commands.specs.views.Chains.{path_of, why_of}
pub use Rattle.mp_commands.specs.views.Measured.{measure_of}
pub use Rattle.mp_commands.specs.views.Outputs.{slot_line, waves_text}
pub use Rattle.mp_commands.specs.views.Pictures.{picture_text}
pub use Rattle.mp_text.specs.lexing.LineErrors.{line_name_of, line_number_of}
pub use Rattle.mp_text.specs.declared.lexing.line_error.LineError.{LineError}
pub use Rattle.mp_text.specs.declared.lexing.line_error.LineError.TheVariants.{BadNumber}
pub use Rattle.mp_depend.specs.declared.work.work_entry.WorkEntry.{WorkEntry}
