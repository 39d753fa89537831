-- The names that many clauses and definitions here cite, passed on from one place. Declares nothing.
pub use Rattle.std.specs.Borrow.{Bor}
pub use Rattle.std.specs.Fmt.{decimal}
pub use Rattle.std.specs.List.{after_first, before_first, enumerate_from, filter_map, flat_map, list_all, list_any, onto_first, position_or_len, slice_split}
pub use Rattle.std.specs.Option.{ok_or, option_copied}
pub use Rattle.std.specs.Prelude.{Bool, Err, IsTrue, List, None, Ok, Option, Result, Some, [], codes, false, length, map, nat_le, option_map, take, ℕ}
pub use Rattle.std.specs.Result.{result_map_both}
pub use Rattle.std.specs.Str.{byte, bytes_eq}
pub use Rattle.mp_modules.specs.Kinds.{are_params, input_count, input_width, kind_named, output_count, output_width, word_of}
pub use Rattle.mp_modules.specs.declared.kind.Kind.{Kind}
pub use Rattle.mp_netlist.specs.Circuit.{Circuit, Drives, HasNames, HasWidth, IsBundle, IsCircuit, IsDelay, IsInputDelay, IsModule, bundle_at, empty_circuit, module_at, module_width, stimulus_at, stimulus_in, width_of, wire_at}
pub use Rattle.mp_netlist.specs.Edits.{after_single, are_distinct, bundle_checks, delays_fit, driven_names, first_failing, first_width, go_on, input_of, inputs_fit, inputs_stand, is_delay, is_input_delay, is_undriven, module_checks, new_bundle, new_module, new_width, output_fits, output_of, outputs_fit, stands, stimulus_checks, unless, width_named, wire_checks, wire_id, with_stimulus, without_stimulus}
pub use Rattle.mp_netlist.specs.Limits.{bundle_limit, horizon_limit, max_delay, max_horizon, max_setup, module_limit, wire_limit}
pub use Rattle.mp_netlist.specs.Replays.{replay, replay_singles}
pub use Rattle.mp_netlist.specs.declared.format.Format.TheVariants.{Large, Standard}
pub use Rattle.mp_records.specs.declared.bundle_record.BundleRecord.{BundleRecord}
pub use Rattle.mp_records.specs.declared.ids.WireId.{WireId}
pub use Rattle.mp_records.specs.declared.module_record.ModuleRecord.{ModuleRecord}
pub use Rattle.mp_records.specs.declared.new_bundle.NewBundle.{NewBundle}
pub use Rattle.mp_records.specs.declared.new_module.NewModule.{NewModule}
pub use Rattle.mp_records.specs.declared.port_names.InputName.{InputName}
pub use Rattle.mp_records.specs.declared.port_names.OutputName.{OutputName}
pub use Rattle.mp_records.specs.declared.ports.Input.{Input}
pub use Rattle.mp_records.specs.declared.ports.Output.{Output}
pub use Rattle.mp_records.specs.declared.single_edit.SingleEdit.{SingleEdit}
pub use Rattle.mp_records.specs.declared.single_edit.SingleEdit.TheVariants.{AddBundle, AddModule, AddWire, ClearStimulus, RemoveBundle, RemoveModule, RemoveWire, RewireInput, RewireOutput, SetDelay, SetInputDelay, SetStimulus}
pub use Rattle.mp_records.specs.declared.wire_record.WireRecord.{WireRecord}
pub use Rattle.mp_streams.specs.Outgoing.{Writes}
pub use Rattle.mp_text.specs.lexing.LineErrors.{line_name_of, line_number_of}
pub use Rattle.mp_text.specs.lexing.Lines.{is_allowed, is_line_feed, line_words, lines_of}
pub use Rattle.mp_text.specs.lexing.Reads.{Gives, with_front, ◌>>=◌}
pub use Rattle.mp_text.specs.lexing.WaveLines.{changes_text, pair_text}
pub use Rattle.mp_text.specs.lexing.WordLists.{change_word, each_word, input_word, number_word, output_word, wire_or_none}
pub use Rattle.mp_text.specs.lexing.Words.{AreAscii, is_gap, is_word, statement_part, texts, words_of}
pub use Rattle.mp_text.specs.declared.lexing.line_error.LineError.{LineError}
pub use Rattle.mp_text.specs.declared.lexing.line_error.LineError.TheVariants.{BadNumber, NotAscii, OutOfMemory, UnknownStatement, WordCount}
pub use Rattle.mp_text.specs.declared.edit_word.EditWord.{EditWord}
pub use Rattle.mp_text.specs.declared.edit_word.EditWord.TheVariants.{Bundle, Module, Stimulus, Wire}
pub use Rattle.mp_text.specs.declared.line_word.LineWord.{LineWord}
pub use Rattle.mp_text.specs.declared.line_word.LineWord.TheVariants.{Batch, Question, Single}
pub use Rattle.mp_text.specs.declared.question_word.QuestionWord.{QuestionWord}
pub use Rattle.mp_text.specs.declared.question_word.QuestionWord.TheVariants.{Check, Dump, Edits, Graph, Measure, Path, Report, Show, Steady, Text, Verilog, Version, Waits, Wave, Waves, Why, Work}
pub use Rattle.mp_text.specs.declared.script_line.Line.TheVariants.{Ask, Change, Empty}
pub use Rattle.mp_text.specs.declared.section.Section.{Section}
pub use Rattle.mp_text.specs.declared.section.Section.TheVariants.{Bundles, Modules, Stimuli, Wires}
pub use Rattle.mp_text.specs.declared.single_word.SingleWord.{SingleWord}
pub use Rattle.mp_text.specs.declared.text_code.TextCode.{TextCode}
pub use Rattle.mp_text.specs.declared.text_code.TextCode.TheVariants.{BadFormat, Line, NoHorizon, Refused, SecondHorizon, TooLong}
pub use Rattle.mp_text.specs.declared.text_error.TextError.{TextError}
pub use Rattle.mp_text.specs.declared.text_format.TextFormat.{TextFormat}
pub use Rattle.mp_text.specs.declared.text_format.TextFormat.TheVariants.{First, Second, Fourth}
pub use Rattle.mp_text.specs.declared.text_state.TextState.{TextState}
pub use Rattle.mp_text.specs.declared.text_state.TextState.TheVariants.{Formatted, Fresh, Open}
