-- The names that clauses and proofs here cite, passed on from one place. Declares nothing.
pub use Rattle.std.specs.Prelude.{Bool, IfErr, IfOk, IfSome, IsSomeAnd, List, Ok, OnOk, Result, Some, [], false, is_some, length, map, slice_index_or, ℕ, ◌&&◌, ◌++◌, ◌+◌, ◌≡◌, ◌≤◌}
pub use Rattle.std.specs.Thread.{IsSync}
pub use Rattle.mp_netlist.specs.Circuit.{Circuit}
pub use Rattle.mp_streams.specs.TakeErrors.{counted_take}
pub use Rattle.mp_text.specs.Sizes.{text_limit}
pub use Rattle.mp_text.specs.lexing.Lines.{lines_of}
pub use Rattle.mp_commands.specs.command_runs.Limits.{max_input}
pub use Rattle.mp_commands.specs.command_runs.OpenedInputs.{StaysShutBy, StaysShutWith, opening_at, opening_with}
pub use Rattle.mp_commands.specs.command_runs.Openings.{counted_netlist, opening_of, taken_of, too_long, viewed_opening, with_all, with_each, with_places, with_wires, within_size}
pub use Rattle.mp_commands.specs.command_runs.OptionLimits.{has_valid_crew}
pub use Rattle.mp_commands.specs.command_runs.RunFaults.{counted_reads, fault_at, fault_of_take, fault_of_text, fault_of_write, line_of, numbered, place_fault_line, status_of, text_line, wire_fault_line}
pub use Rattle.mp_commands.specs.command_runs.Runs.{HasInput, IsInput, Ran, RanFrom, Refuses, StaysUnread, TakesInput, WritesOne}
pub use Rattle.mp_commands.specs.declared.command_runs.options.Options.{Options}
pub use Rattle.mp_commands.specs.declared.command_runs.run_fault.RunFault.{RunFault}
pub use Rattle.mp_commands.specs.declared.command_runs.run_fault.RunFault.TheVariants.{BadCount, NoPlace, NoSuchPlace, NoSuchWire, OutOfMemory, ReadFailed, Text, WriteFailed}
