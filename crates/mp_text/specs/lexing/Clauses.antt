-- The names that clauses and proofs here cite, passed on from one place. Declares nothing.
pub use Rattle.std.specs.Fmt.{decimal}
pub use Rattle.std.specs.List.{after_first, after_last, before_first, before_last, list_all, list_any, onto_first, position_or_len, slice_split, suffix_len}
pub use Rattle.std.specs.Option.{option_copied}
pub use Rattle.std.specs.Prelude.{All, IfOk, IfSome, IsAscii, IsTrue, List, OnOk, Result, [], drop, length, nat_lt, not, option_map, position, slice_get, vec_len, ℕ, ◌+◌, ◌-◌, ◌<◌, ◌==◌, ◌∷◌, ◌≡◌, ◌≤◌}
pub use Rattle.mp_streams.specs.Outgoing.{Writes}
pub use Rattle.mp_streams.specs.Places.{IsPlaced}
pub use Rattle.mp_wave.specs.ToggleWaves.{toggle_changes}
pub use Rattle.mp_text.specs.lexing.Divisions.{are_divided, are_division, first_part, is_division, later_parts, lines_of_each, parts_of}
pub use Rattle.mp_text.specs.lexing.Lines.{is_allowed, is_line_feed, line_words, lines_of}
pub use Rattle.mp_text.specs.lexing.Numbers.{is_slash, name_and_number, parts_at_equals, parts_at_slash, time_and_value}
pub use Rattle.mp_text.specs.lexing.Reads.{Gives, with_front, ◌>>=◌}
pub use Rattle.mp_text.specs.lexing.WaveLines.{change_text, changes_text, pair_text}
pub use Rattle.mp_text.specs.lexing.WordLists.{change_word, count_word, each_word, input_word, number_word, output_word, wire_or_none}
pub use Rattle.mp_text.specs.lexing.Words.{AreAscii, is_gap, is_word, is_word_byte, statement_part, texts, words_of}
pub use Rattle.mp_text.specs.declared.lexing.line_error.LineError.{LineError}
pub use Rattle.mp_text.specs.declared.lexing.line_error.LineError.TheVariants.{OutOfMemory}
