-- The names that many proofs here cite, passed on from one place. Declares nothing.
pub use Rattle.std.proofs.Common.{All, Bool, Bor, Err, IfOk, IsAscii, List, MatchResult, None, Ok, OnOk, Option, Result, Some, [], add-one, ap, append-nil, append_assoc, arith, codes, cond, decimal, drop, drop-cons, drop_of_length-le, eqb-true, false, get_or, get_or-take, inl, inr, le-ltb, length, length-append, length-drop, length-set, length-take-le, lt-ltb, map, nat_le, nat_lt, not, position, refl, rules, set, subst, suc, sym, take, take-add, take-append-drop, take_all, tests, true, true≢false, zero, ℕ, ◌%◌, ◌&&◌, ◌*◌, ◌++◌, ◌+◌, ◌-◌, ◌/◌, ◌<◌, ◌==◌, ◌^◌, ◌∙◌, ◌∷◌, ◌≡◌, ◌≤◌}
pub use Rattle.std.proofs.Math.Seq.{drop-append-add, get_or-append_right, get_or-append_seam, take-append_seam, take-length}
pub use Rattle.std.proofs.lemmas.Bool.{and_parts, cases_lt, false_from_ne_true, or_left, or_right}
pub use Rattle.std.proofs.lemmas.Bool.Decides.{nat_tests}
pub use Rattle.std.proofs.lemmas.Fmt.{decimal_by_steps, decimal_digit, decimal_nonempty, decimal_step, length-decimal-le}
pub use Rattle.std.proofs.lemmas.Iterator.Consumers.{YieldsList-at, YieldsList-from_filter, count_from_yields_List, nth_from_yields_List}
pub use Rattle.std.proofs.lemmas.Iterator.Splits.{YieldsList-from_slice_split}
pub use Rattle.std.proofs.lemmas.List.{at_drop_all, at_drop_more, drop-map, drop_all, get_or-map, get_or_default, length-map, map_push, take-map, take_more, take_rest}
pub use Rattle.std.proofs.lemmas.List.Elements.{All-cons, All-drop, All-filter, All-get_or, All-head, All-nil, All-push, All-tail, All-weaker}
pub use Rattle.std.proofs.lemmas.List.Folds.{list_all-append, list_any-append, list_any-from_Any, list_any_none}
pub use Rattle.std.proofs.lemmas.List.Splits.{slice_split_first, slice_split_none}
pub use Rattle.std.proofs.lemmas.List.Sums.{AllPass-from_list_all, fails_before_first, list_all-from_AllPass, passes_at_first, position_or_len_is, suffix_len_is}
pub use Rattle.std.proofs.lemmas.Slice.Eq.{bytes_eq-Decides}
pub use Rattle.std.proofs.lemmas.Str.{IsAscii-take, IsUtf8-from_ascii}
pub use Rattle.std.proofs.lemmas.Str.Ascii.{All-from_ascii, IsAscii-from_all}
pub use Rattle.mp_records.specs.Names.{begins_with_letter, is_name_byte}
unfoldable pub use Rattle.mp_records.specs.Names.{is_name}
pub use Rattle.mp_streams.proofs.LeftLemmas.{Left, left_as, left_failed, left_none, left_then, left_whole}
pub use Rattle.mp_streams.proofs.OutLemmas.{puts_next, puts_stopped, puts_then, writes_failed}
unfoldable pub use Rattle.mp_streams.specs.Numbers.{number_from, spelled_number}
unfoldable pub use Rattle.mp_text.specs.lexing.Lines.{lines_of}
unfoldable pub use Rattle.mp_text.specs.lexing.Numbers.{name_and_number, parts_at_equals, parts_at_slash, time_and_value}
unfoldable pub use Rattle.mp_text.specs.lexing.WordLists.{each_word, input_word, output_word}
unfoldable pub use Rattle.mp_text.specs.lexing.Words.{words_of}
pub use Rattle.mp_text.specs.lexing.Clauses.{AreAscii, LineError, Writes, after_first, after_last, are_divided, before_first, before_last, change_text, change_word, changes_text, first_part, is_allowed, is_division, is_gap, is_line_feed, is_slash, is_word, is_word_byte, later_parts, lines_of_each, list_all, list_any, number_word, onto_first, pair_text, parts_of, position_or_len, slice_split, statement_part, suffix_len, texts, toggle_changes, with_front, ◌>>=◌}
pub use Rattle.mp_text.specs.lexing.Names.{is_ascii_alphabetic, is_ascii_digit}
