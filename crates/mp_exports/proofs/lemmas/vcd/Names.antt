-- The names that many proofs here cite, passed on from one place. Declares nothing.
pub use Rattle.std.proofs.Common.{All, Bool, Contains, List, None, Option, Result, Some, [], add-one, add-zero, ap, append-nil, append_assoc, arith, bytes_eq, codes, cond, decimal, drop, drop-cons, drop-drop, eq-eqb, eqb-true, false, filter, flat_map, get_or, get_or-set_other, get_or-set_same, inl, inr, le-leb, leb-true, length, length-append, length-set, length-take, lt-ltb, ltb-false, ltb-true, map, nat_le, nat_lt, ne_eqb, not, refl, rules, set, slice_index, slice_index_or, slice_set, subst, suc, sym, take, take-append-drop, take-suc, take_all, true, vec_len, zero, zero-add, ℕ, ◌%◌, ◌*◌, ◌++◌, ◌+◌, ◌-◌, ◌/◌, ◌<◌, ◌==◌, ◌^◌, ◌∙◌, ◌∷◌, ◌≡◌, ◌≢◌, ◌≤◌, ◌⊎◌}
pub use Rattle.std.proofs.Math.ListN.{get_or-append, get_or-map}
pub use Rattle.std.proofs.Math.Seq.{drop-length, get_or-append_seam}
pub use Rattle.std.proofs.lemmas.Bool.{and_from, and_parts, cases_lt, false_from_ne_true, lt-leb, not-false}
pub use Rattle.std.proofs.lemmas.Bool.Decides.{nat_tests}
pub use Rattle.std.proofs.lemmas.List.{at_drop_more, drop-set, drop_all, get_or_default, get_or_read_under, map-append, take-set-le, take_more}
pub use Rattle.std.proofs.lemmas.List.Concat.{flat_map-append}
pub use Rattle.std.proofs.lemmas.List.Elements.{All-filter, All-head, All-tail, Contains-get_or}
pub use Rattle.std.proofs.lemmas.List.Folds.{flat_map-map, list_all-append}
pub use Rattle.std.proofs.lemmas.Slice.Eq.{bytes_eq-Decides}
pub use Rattle.mp_model.proofs.MemberLemmas.{any_passes, contains_cases, contains_filter, contains_here, contains_map, contains_there}
pub use Rattle.mp_netlist.specs.Limits.{max_wires}
pub use Rattle.mp_netlist.specs.Slots.{slot_at}
unfoldable pub use Rattle.mp_records.specs.Names.{is_name}
pub use Rattle.mp_streams.proofs.LeftLemmas.{Left, left_as, left_failed, left_none, left_then, left_whole}
pub use Rattle.mp_streams.proofs.OutLemmas.{puts_as, puts_ok, puts_sooner, puts_then, puts_unmade, writes_failed}
pub use Rattle.mp_streams.proofs.PlaceLemmas.{placed_between, placed_both, placed_byte}
pub use Rattle.mp_streams.specs.declared.write_error.WriteError.TheVariants.{OutOfMemory, WriteFailed}
unfoldable pub use Rattle.mp_exports.specs.vcd.Codes.{code}
unfoldable pub use Rattle.mp_exports.specs.vcd.Dumps.{dump}
pub use Rattle.mp_exports.specs.vcd.Names.{AllDigits, AllWithin, Circuit, QueuedChange, IsCircuit, Waveform, WireRecord, between, change_after, changes_after, changes_in, digit_value, digits_value, digits_value_after, is_ascii_digit, is_ascii_whitespace, level, list_all, list_any, range_with_len, slot_wave, wave, width_of, wire_at}
unfoldable pub use Rattle.mp_exports.specs.vcd.Readings.{reading}
unfoldable pub use Rattle.mp_exports.specs.vcd.Values.{bits}
pub use Rattle.mp_wave.proofs.PrefixLemmas.{earlier_than-take, later_than-drop, nat_lt-false, nat_lt-true}
pub use Rattle.mp_text.proofs.lemmas.lexing.PlainLemmas.{IsPlain, IsPlain-decimal, IsPlain-name, is_plain_byte, list_all-passing}
pub use Rattle.mp_exports.specs.vcd.Clauses.{AmongValues, AreMade, IsMade, IsMadeAt, BehindDigits, BetweenDeclarations, Given, InDeclaration, Inside, IsChain, IsPlaced, Outside, Reading, Side, Tells, Variable, at_place, bit, block_start, changed, declaration, digits_of, entry_at, if_stands, is_binary, is_changed, is_made_of, is_printed, line, marked, no_entry, nothing_read, onto, onto_slot, opening_lines, part_line, preamble, read_words, slot_declaration, slot_text, standing, standing_from, takes, time_mark, times_text, passage_text, told_at, told_from, told_lines, unit_text, value_at, value_line, value_of, with_levels, with_time, with_told, with_value, word_first, word_in, words, words_from}
