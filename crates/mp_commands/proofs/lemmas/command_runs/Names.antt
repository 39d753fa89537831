-- The names that many proofs here cite, passed on from one place. Declares nothing.
pub use Rattle.std.proofs.Common.{Bool, Err, IfSome, IsErrAnd, List, None, Ok, Option, Result, Some, [], ap, arith, false, inl, inr, is_some, length, min, refl, rules, subst, sym, take, true, ℕ, ◌++◌, ◌+◌, ◌-◌, ◌<◌, ◌∙◌, ◌≡◌, ◌≤◌, ◌⊎◌}
pub use Rattle.std.proofs.lemmas.Bool.{cases_lt, le-leb, lt-leb}
pub use Rattle.std.proofs.lemmas.List.{length-append, length-take, take_all}
pub use Rattle.std.proofs.lemmas.Result.{err_from_is_err_and}
pub use Rattle.mp_streams.specs.Outgoing.{Outgoing}
pub use Rattle.mp_text.proofs.TextLemmas.{limit_least, limit_of_front}
pub use Rattle.mp_commands.specs.command_runs.Clauses.{BadCount, Circuit, HasInput, IsInput, IsSomeAnd, NoPlace, NoSuchPlace, NoSuchWire, OutOfMemory, Ran, RanFrom, ReadFailed, Refuses, RunFault, StaysUnread, TakesInput, Text, WriteFailed, WritesOne, counted_netlist, fault_at, fault_of_take, fault_of_text, fault_of_write, lines_of, opening_of, taken_of, text_limit, too_long, viewed_opening, with_all, with_each, with_places, with_wires, within_size}
pub use Rattle.mp_commands.specs.command_runs.Names.{Fresh, after_lines, max_short_text}
