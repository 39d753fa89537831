-- The names that clauses and proofs here cite, passed on from one place. Declares nothing.
pub use Rattle.std.specs.List.Sorted.{IsNonDecreasingBy}
pub use Rattle.std.specs.Prelude.{IfOk, IfSome, List, OnOk, Some, [], false, length, map, slice_index, slice_index_or, take, true, vec_len, ℕ}
pub use Rattle.mp_streams.specs.Places.{IsPlaced}
pub use Rattle.mp_exports.specs.vcd.Agendas.{IsChain, Tells, entry_at, no_entry, onto, onto_slot, told_at, told_from, told_lines, with_levels, with_told}
pub use Rattle.mp_exports.specs.vcd.Codes.{code, digits_of}
pub use Rattle.mp_streams.specs.InitialBlocks.{block_start}
pub use Rattle.mp_exports.specs.vcd.Dumps.{changed, declaration, dump, if_stands, is_changed, line, marked, opening_lines, preamble, slot_declaration, standing, standing_from, time_mark, unit_text, value_at}
pub use Rattle.mp_exports.specs.vcd.Laws.{HaveKnownCodes, HaveOwnCodes, IsReadBack, SaysLevels}
pub use Rattle.mp_exports.specs.vcd.Names.{AllWithin, AreWavesOf, IsCircuit, Writes, between, changes_in, earlier_than, flat_map, range_with_len, width_of, wire_at}
pub use Rattle.mp_exports.specs.vcd.Parts.{part_line, slot_text}
pub use Rattle.mp_exports.specs.vcd.Passages.{AreMade, IsMade, IsMadeAt, passage_text, times_text}
pub use Rattle.mp_exports.specs.vcd.Readings.{AmongValues, BehindDigits, BetweenDeclarations, Given, InDeclaration, Inside, Outside, Reading, Side, Variable, at_place, is_binary, is_made_of, is_printed, nothing_read, read_words, reading, takes, value_of, with_time, with_value, word_first, word_in, words, words_from}
pub use Rattle.mp_exports.specs.vcd.Values.{bit, bits, value_line, value_text}
