-- The names that many proofs here cite, passed on from one place. Declares nothing.
pub use Rattle.std.proofs.Common.{drop-cons, add-one, drop_of_length-le, All, Bool, Bor, Err, IfErr, IfSome, IsAscii, IsSome, IsTrue, List, None, Ok, OnOk, Option, Result, Some, [], ap, append-nil, append_assoc, arith, bytes_eq, codes, cond, decimal, drop, eq-eqb, eqb-true, false, filter, filter_map, flat_map, get_or, if◌then◌else◌, inl, inr, is_none, is_some, leb-false, length, length-append, length-drop, length-take, lt-ltb, ltb-true, map, map-id, min, nat_le, nat_lt, not, option_copied, option_map, refl, rules, slice_get, slice_index_or, subst, suc, sym, take, tests, true, true≢false, unwrap_or, zero, ℕ, ◌&&◌, ◌++◌, ◌+◌, ◌-◌, ◌<◌, ◌==◌, ◌^◌, ◌||◌, ◌∙◌, ◌∷◌, ◌≡◌, ◌≢◌, ◌≤◌}
pub use Rattle.std.proofs.lemmas.Bool.{and_from, and_parts, cases_Bool, cases_eq, false_from_ne_true, ne_eqb}
pub use Rattle.std.proofs.lemmas.Bool.Decides.{nat_tests}
pub use Rattle.std.proofs.lemmas.List.{at_drop_all, at_drop_more, get_or-map, get_or_append_left, get_or_at, length-map, length_push, map-append, set-get_or, set_at, set_split, take-take, take_all, take_more}
pub use Rattle.std.proofs.lemmas.List.Concat.{flat_map-append}
pub use Rattle.std.proofs.lemmas.List.Elements.{All-append, All-cons, All-drop, All-from_get_or, All-from_recursion, All-get_or, All-head, All-map, All-nil, All-tail, All-take, All-weaker}
pub use Rattle.std.proofs.lemmas.List.Folds.{flat_map-map, list_all-append, list_any_none, map_fixed}
pub use Rattle.std.proofs.lemmas.List.Sums.{list_all-from_AllPass}
pub use Rattle.std.proofs.lemmas.Simd.{map-map}
pub use Rattle.std.proofs.lemmas.Result.{err_from_is_err_and}
pub use Rattle.mp_modules.proofs.KindLemmas.{param_bound-low, some_input, some_output, width_from_low}
pub use Rattle.mp_netlist.proofs.LimitLemmas.{horizon_within}
pub use Rattle.mp_netlist.proofs.PortLemmas.{no_name}
pub use Rattle.mp_netlist.proofs.TableLemmas.{equal_name, same_name, slot_within}
pub use Rattle.mp_netlist.specs.Drivers.{driver, is_nothing, is_port, stimulus_driver}
unfoldable pub use Rattle.mp_netlist.specs.Edits.{edited, refusal}
pub use Rattle.mp_netlist.specs.Slots.{has_name, slot_at}
unfoldable pub use Rattle.mp_netlist.specs.Slots.{number_named}
pub use Rattle.mp_records.specs.Inputs.{input_at, no_input}
unfoldable pub use Rattle.mp_records.specs.Names.{is_name}
pub use Rattle.mp_records.specs.Outputs.{output_at, output_in}
unfoldable pub use Rattle.mp_records.specs.Stimuli.{is_stimulus}
pub use Rattle.mp_records.specs.declared.edit_error.EditError.{EditError}
pub use Rattle.mp_streams.proofs.LeftLemmas.{Left, left_as, left_failed, left_none, left_then, left_whole}
pub use Rattle.mp_streams.proofs.OutLemmas.{puts_next, puts_stopped, writes_failed}
pub use Rattle.mp_text.specs.Names.{AddBundle, Bundle, Module, Stimulus, Wire, AddModule, AddWire, AreAscii, BadNumber, Batch, BundleRecord, Bundles, Circuit, Drives, EditWord, Empty, Formatted, Fresh, Gives, HasNames, HasWidth, Input, InputName, IsBundle, IsCircuit, IsDelay, IsModule, Kind, Large, Line, LineError, LineWord, ModuleRecord, Modules, NewBundle, NewModule, NotAscii, Open, OutOfMemory, Output, OutputName, Question, QuestionWord, Refused, Second, Section, SetStimulus, Single, SingleEdit, SingleWord, Standard, Stimuli, TextCode, TextError, TextFormat, TextState, Fourth, TooLong, UnknownStatement, WireId, WireRecord, Wires, WordCount, Writes, after_first, after_single, are_distinct, are_params, before_first, bundle_at, bundle_checks, bundle_limit, byte, change_word, changes_text, delays_fit, driven_names, empty_circuit, enumerate_from, first_failing, first_width, go_on, horizon_limit, input_of, input_width, input_word, inputs_fit, inputs_stand, is_allowed, is_delay, is_gap, is_input_delay, is_line_feed, is_undriven, is_word, line_words, list_all, list_any, max_delay, max_horizon, max_setup, module_at, module_checks, module_limit, module_width, new_bundle, new_module, new_width, number_word, onto_first, output_fits, output_of, output_width, output_word, outputs_fit, pair_text, position_or_len, replay, replay_singles, result_map_both, slice_split, stands, statement_part, stimulus_at, stimulus_checks, stimulus_in, texts, unless, width_named, width_of, wire_at, wire_checks, wire_id, wire_limit, with_front, with_stimulus, without_stimulus, word_of, ◌>>=◌}
unfoldable pub use Rattle.mp_text.specs.ScriptLines.{line_at, line_of}
pub use Rattle.mp_text.specs.Sections.{section_text, slot_count, slot_line}
unfoldable pub use Rattle.mp_text.specs.Sizes.{text_limit}
unfoldable pub use Rattle.mp_text.specs.Statements.{statement_of}
unfoldable pub use Rattle.mp_text.specs.Texts.{after_line, after_lines, after_statement, text_at}
unfoldable pub use Rattle.mp_text.specs.Written.{written}
pub use Rattle.mp_text.proofs.lemmas.lexing.DividedLemmas.{after_first-append, before_first-append, first_none, position-append}
pub use Rattle.mp_text.proofs.lemmas.lexing.LineLemmas.{lines_of-cons, rest_falls}
pub use Rattle.mp_text.proofs.lemmas.lexing.PlainLemmas.{All-passing, IsPlain, IsPlain-append, IsPlain-decimal, IsPlain-name, is_plain_byte, list_all-passing, plain_allowed, plain_no_gap, plain_no_hash}
pub use Rattle.mp_text.proofs.lemmas.lexing.ReadBackLemmas.{change_back, each_back, input_back, late_input_back, no_wire_back, number_back, wire_back}
pub use Rattle.mp_text.proofs.lemmas.lexing.WordLemmas.{All-slice_split, All-unmap, rest_ascii, texts_behind}
pub use Rattle.mp_text.proofs.lemmas.lexing.WordListLemmas.{each_end, each_err, each_ok, texts-after_first, texts-before_first}
unfoldable pub use Rattle.mp_text.specs.lexing.Lines.{lines_of}
unfoldable pub use Rattle.mp_text.specs.lexing.WordLists.{each_word}
unfoldable pub use Rattle.mp_text.specs.lexing.Words.{words_of}
pub use Rattle.mp_text.specs.Clauses.{Change, Format, GivesText, HasForm, IsReachedIn, IsReadAs, IsReadAsWritten, SameRecords, Start, Statement, added_bundle, added_module, bundle_by_name, bundle_edits, bundle_line, delay_text, each_part, edit_for, edits_by_name, finished, first_words, format_line, format_of, formatted, horizon_line, in_text, input_by_name, input_text, is_begun, has_kind, is_mark, is_four, last_line, line_word, max_first_horizon, max_horizon_of, max_short_text, max_text, module_by_name, module_edit, module_edits, module_line, name_in, needs_fourth, netlist_format, next_line, output_by_name, output_name, output_text, part_edit, part_texts, question_takes, set_edits, single_takes, spaced, standing, stated_edit, stated_line, stands_fourth, statement_takes, states_fourth, stimulus_edits, stimulus_line, stimulus_words, takes, wire_edits, wire_line, wire_name, written_format, written_line}
