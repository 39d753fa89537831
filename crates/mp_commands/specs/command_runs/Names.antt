-- The names that many clauses and definitions here cite, passed on from one place. Declares nothing.
pub use Rattle.std.specs.Fmt.{decimal}
pub use Rattle.std.specs.Prelude.{Bool, Err, IfSome, IsOk, IsOkAnd, List, None, Ok, Option, Result, Some, [], codes, false, if◌then◌else◌, length, nat_le, slice_index_or, take, true, unwrap_or, ℕ, ◌&&◌, ◌++◌, ◌+◌, ◌<◌, ◌∷◌, ◌≡◌, ◌≤◌, ◌⊎◌}
pub use Rattle.mp_netlist.specs.Circuit.{Circuit}
pub use Rattle.mp_streams.specs.Outgoing.{Outgoing}
pub use Rattle.mp_streams.specs.StreamBytes.{ConsumesUpTo}
pub use Rattle.mp_streams.specs.StreamFaults.{one_more}
pub use Rattle.mp_streams.specs.WriteErrors.{Writes}
pub use Rattle.mp_streams.specs.declared.take_error.TakeError.{TakeError}
pub use Rattle.mp_streams.specs.declared.write_error.WriteError.{WriteError}
pub use Rattle.mp_text.specs.Limits.{max_short_text, max_text}
pub use Rattle.mp_text.specs.Sizes.{text_limit}
pub use Rattle.mp_text.specs.TextCodes.{name_of, number_of}
pub use Rattle.mp_text.specs.Texts.{after_lines}
pub use Rattle.mp_text.specs.declared.text_code.TextCode.{TextCode}
pub use Rattle.mp_text.specs.declared.text_code.TextCode.TheVariants.{TooLong}
pub use Rattle.mp_text.specs.declared.text_error.TextError.{TextError}
pub use Rattle.mp_text.specs.declared.text_state.TextState.TheVariants.{Fresh}
pub use Rattle.mp_check.specs.Selections.{missing_place}
pub use Rattle.mp_commands.specs.views.AskedWires.{missing_at}
pub use Rattle.mp_text.specs.lexing.Lines.{lines_of}
pub use Rattle.mp_commands.specs.declared.command_runs.options.Options.{Options}
pub use Rattle.mp_commands.specs.declared.command_runs.run_fault.RunFault.{RunFault}
pub use Rattle.mp_commands.specs.declared.command_runs.run_fault.RunFault.TheVariants.{BadCount, NoPlace, NoSuchPlace, NoSuchWire, OutOfMemory, ReadFailed, Text, WriteFailed}
