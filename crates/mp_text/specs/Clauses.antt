-- The names that clauses and proofs here cite, passed on from one place. Declares nothing.
pub use Rattle.std.specs.Io.KnownBytes.{Appends}
pub use Rattle.std.specs.Prelude.{All, IfErr, IfOk, IfSome, IsAscii, List, OnOk, Some, length, position, take, ℕ}
pub use Rattle.mp_text.specs.Batches.{batch_of, each_part, part_edit, part_texts}
pub use Rattle.mp_text.specs.Formats.{format_of, has_kind, max_horizon_of, needs_fourth, netlist_format}
pub use Rattle.mp_text.specs.Laws.{IsReplay}
pub use Rattle.mp_text.specs.Limits.{max_first_horizon, max_short_text, max_text}
pub use Rattle.mp_text.specs.LineStarts.{HasForm, is_begun, question_takes, single_takes, statement_takes, takes}
pub use Rattle.mp_text.specs.Names.{AreAscii, Circuit, Gives, IsCircuit, OutOfMemory, Writes, after_first, before_first, byte, flat_map, lines_of, max_horizon, slice_split, texts, wire_or_none, words_of}
pub use Rattle.mp_text.specs.PictureWords.{columns_at, columns_behind, form_of, is_option, option_place, options_in, wires_in, words_taken}
pub use Rattle.mp_text.specs.Questions.{chain_question, check_of, lone_word, picture_question, question_word, range_of, since_question, stated_question}
pub use Rattle.mp_text.specs.RoundTrips.{IsReadAs, IsReadAsWritten, SameRecords, added_bundle, added_module, bundle_by_name, bundle_edits, edit_for, edits_by_name, input_by_name, module_by_name, module_edits, output_by_name, set_edits, standing, stimulus_edits, wire_edits}
pub use Rattle.mp_text.specs.ScriptLines.{batch_line, line_at, line_word, question_line, single_line, stated_line}
pub use Rattle.mp_text.specs.SingleEdits.{port_change, removal, single_edit, single_word}
pub use Rattle.mp_text.specs.Sizes.{first_words, is_four, states_fourth, text_limit}
pub use Rattle.mp_records.specs.declared.single_edit.SingleEdit.TheVariants.{AddModule}
pub use Rattle.mp_text.specs.Statements.{Blank, Change, Format, Start, Statement, Unknown, bundle_edit, edit_word, is_mark, kind_in, kind_word, module_edit, params_edit, parts_edit, ports_edit, stated_edit, stated_number, statement_of, stimulus_edit, wire_edit}
pub use Rattle.mp_text.specs.Texts.{GivesText, IsReached, IsReachedIn, after_line, after_lines, after_statement, begun, finished, formatted, in_text, last_line, next_line, text_at, told}
pub use Rattle.mp_text.specs.Written.{bundle_line, delay_text, format_line, horizon_line, input_text, module_line, name_in, output_name, output_text, spaced, stands_fourth, stimulus_line, stimulus_words, wire_line, wire_name, written, written_format, written_line}
pub use Rattle.mp_text.specs.declared.text_code.TextCode.TheVariants.{Line, Refused}
pub use Rattle.mp_text.specs.declared.text_state.TextState.TheVariants.{Fresh, Open}
