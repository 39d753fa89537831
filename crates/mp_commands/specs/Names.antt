-- The names that many clauses and definitions here cite, passed on from one place. Declares nothing.
pub use Rattle.std.specs.Fmt.{decimal}
pub use Rattle.std.specs.Prelude.{Bool, Err, List, None, Ok, Option, Result, Some, [], codes, drop, false, if◌then◌else◌, length, ℕ, ◌&&◌, ◌++◌, ◌+◌, ◌∷◌, ◌≡◌, ◌≤◌}
pub use Rattle.mp_commands.specs.answers.Answers.{answer_text}
pub use Rattle.mp_commands.specs.answers.Kept.{Kept, kept_at}
pub use Rattle.mp_commands.specs.answers.NumberedLines.{lines_from}
pub use Rattle.mp_commands.specs.answers.ShortReplies.{accepted_text, refused_text, too_long_text, unread_text}
pub use Rattle.mp_commands.specs.command_runs.OpenedInputs.{StaysShutWith, opening_with}
pub use Rattle.mp_commands.specs.command_runs.Openings.{opening_of}
pub use Rattle.mp_commands.specs.command_runs.OptionLimits.{has_valid_crew}
pub use Rattle.mp_commands.specs.command_runs.Runs.{HasInput}
pub use Rattle.mp_commands.specs.declared.command_runs.options.Options.{Options}
pub use Rattle.mp_commands.specs.declared.command_runs.run_fault.RunFault.{RunFault}
pub use Rattle.mp_desk.specs.DeskSizes.{is_desk_size}
pub use Rattle.mp_text.specs.edit_lines.EditLines.{edit_lines}
pub use Rattle.mp_meeting.specs.Meetings.{IsMeeting}
pub use Rattle.mp_meeting.specs.declared.meeting_fault.MeetingFault.{MeetingFault}
pub use Rattle.mp_meeting.specs.declared.meeting_fault.MeetingFault.TheVariants.{NoPlace, OutOfMemory}
pub use Rattle.mp_meeting.specs.declared.tally.Tally.{Tally}
pub use Rattle.mp_netlist.specs.Circuit.{Circuit, IsCircuit}
pub use Rattle.mp_netlist.specs.Edits.{RefusedBy, after, after_each, go_on, is_batch, may_want}
pub use Rattle.mp_netlist.specs.Replays.{replay}
pub use Rattle.mp_records.specs.declared.edit.Edit.{Edit}
pub use Rattle.mp_records.specs.declared.edit_error.EditError.{EditError}
pub use Rattle.mp_streams.specs.Outgoing.{Outgoing, Writes}
pub use Rattle.mp_streams.specs.declared.failed.Failed.{Failed}
pub use Rattle.mp_streams.specs.declared.write_error.WriteError.{WriteError}
pub use Rattle.mp_text.specs.ScriptLines.{line_at}
pub use Rattle.mp_text.specs.declared.script_line.Line.{Line}
pub use Rattle.mp_text.specs.declared.script_line.Line.TheVariants.{Ask, Change, Empty}
pub use Rattle.mp_version.specs.Limits.{max_edits}
pub use Rattle.mp_version.specs.Stories.{Story, counted_edit, judged, one_more, opening, present}
pub use Rattle.mp_commands.specs.views.Outputs.{waves_text}
pub use Rattle.mp_text.specs.lexing.Divisions.{are_divided, first_part, later_parts, lines_of_each, parts_of}
pub use Rattle.mp_text.specs.lexing.Lines.{lines_of}
pub use Rattle.mp_text.specs.declared.lexing.line_error.LineError.{LineError}
pub use Rattle.mp_depend.specs.work.Work.{IsWork}
