-- The names that many proofs here cite, passed on from one place. Declares nothing.
pub use Rattle.std.proofs.Common.{Bool, Err, IsErr, IsErrAnd, IsOk, List, Ok, Result, [], ap, append-nil, append_assoc, arith, drop, false, if◌then◌else◌, inl, inr, length, length-append, map, nat_lt, refl, rules, slice_index_or, subst, sym, true, true≢false, vec_len, ℕ, ◌&&◌, ◌++◌, ◌+◌, ◌<◌, ◌∙◌, ◌∷◌, ◌≡◌, ◌≤◌, ◌⊎◌}
pub use Rattle.std.proofs.lemmas.List.{drop_all, drop_more, length-map}
pub use Rattle.std.proofs.lemmas.Result.{err_from_is_err_and}
pub use Rattle.mp_commands.proofs.lemmas.command_runs.RunLemmas.{refused, refused_unseated, wrote, wrote_part}
pub use Rattle.mp_commands.specs.declared.command_runs.run_fault.RunFault.TheVariants.{OutOfMemory}
pub use Rattle.mp_commands.specs.Desks.{IsDeskText, blocks_of, outcome_text, viewer_line}
pub use Rattle.mp_commands.specs.ScriptSessions.{IsKeptAfter, IsOneMore, judged, opened}
pub use Rattle.mp_commands.specs.MeetingFaults.{run_fault_of}
pub use Rattle.mp_commands.specs.Names.{Ask, Change, Circuit, Edit, EditError, Failed, IsCircuit, Kept, Line, LineError, Outgoing, RefusedBy, Story, WriteError, after, after_each, are_divided, counted_edit, go_on, is_batch, later_parts, line_at, lines_from, lines_of_each, may_want, parts_of, present, replay}
pub use Rattle.mp_commands.specs.Replies.{IsKeptNext, IsNext, PutsEdit, PutsReply, edit_text, outcome, reply}
pub use Rattle.mp_streams.proofs.LeftLemmas.{Left, left_as, left_failed, left_none, left_then, left_whole}
pub use Rattle.mp_streams.proofs.OutLemmas.{puts_as, puts_none, puts_ok, puts_sooner, puts_then, puts_unmade, writes_failed}
pub use Rattle.mp_streams.specs.WriteErrors.{Writes}
pub use Rattle.mp_streams.specs.declared.write_error.WriteError.TheVariants.{WriteFailed}
unfoldable pub use Rattle.mp_text.specs.lexing.Lines.{lines_of}
