-- The names that many clauses and definitions here cite, passed on from one place. Declares nothing.
pub use Rattle.std.specs.Borrow.{Bor}
pub use Rattle.std.specs.Char.{is_ascii_alphabetic, is_ascii_digit}
pub use Rattle.std.specs.Fmt.{decimal}
pub use Rattle.std.specs.List.{after_first, after_last, before_first, before_last, flat_map, list_all, list_any, onto_first, slice_split}
pub use Rattle.std.specs.Option.{ok_or}
pub use Rattle.std.specs.Prelude.{All, Bool, Err, IsAscii, List, None, Ok, Option, Result, Some, [], codes, drop, false, filter, if◌then◌else◌, length, map, nat_le, nat_lt, not, option_and_then, option_map, position, take, ℕ, ◌&&◌, ◌*◌, ◌++◌, ◌+◌, ◌-◌, ◌==◌, ◌^◌, ◌||◌, ◌∷◌, ◌≡◌, ◌⊎◌}
pub use Rattle.std.specs.Str.{byte, bytes_eq}
pub use Rattle.mp_records.specs.declared.port_names.InputName.{InputName}
pub use Rattle.mp_records.specs.declared.port_names.OutputName.{OutputName}
pub use Rattle.mp_text.specs.declared.lexing.line_error.LineError.{LineError}
pub use Rattle.mp_text.specs.declared.lexing.line_error.LineError.TheVariants.{BadNumber, NotAscii, OutOfMemory, UnknownStatement, WordCount}
