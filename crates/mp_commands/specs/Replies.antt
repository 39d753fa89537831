-- What the lines of a script are answered.
use Rattle.std.specs.Prelude.{◌≡◌, ◌+◌, ◌&&◌, if◌then◌else◌}
use Rattle.mp_commands.specs.Names.{Edit, EditError, Circuit, may_want, LineError, Line, Empty, Change, Ask, line_at, Failed, Outgoing, WriteError, Kept, accepted_text, refused_text, unread_text, ℕ, Bool, List, [], length, Result, Ok, Err, answer_text}
use Rattle.mp_records.specs.declared.edit_error.EditError.TheVariants.{OutOfMemory}
use Rattle.mp_streams.specs.Outgoing.{Writes as Sends}
use Rattle.mp_streams.specs.WriteErrors.{Writes}
use Rattle.mp_commands.specs.ScriptSessions.{judged, IsKeptAfter}

-- the netlist after an edit, or why the edit is refused, where its memory was wanting or not
abbrev pub outcome : Bool → Kept → Edit → Result Circuit EditError
outcome wanting kept edit = if wanting && may_want edit (judged kept edit) then Err OutOfMemory else judged kept edit

-- the reply to an edit
abbrev pub edit_text : Kept → Result Circuit EditError → List ℕ
edit_text kept (Err error) = refused_text error
edit_text kept (Ok n) = accepted_text (length kept.edits + 1)

-- the reply to a line that was read or not: a line without words has none
abbrev pub reply_to : Bool → Kept → Result Line LineError → List ℕ
reply_to wanting kept (Ok Empty) = []
reply_to wanting kept (Ok (Change edit)) = edit_text kept (outcome wanting kept edit)
reply_to wanting kept (Ok (Ask question)) = answer_text kept question
reply_to wanting kept (Err error) = unread_text error

-- what is kept after a line: only an edit changes it
abbrev pub IsKeptNext : Bool → Kept → Result Line LineError → Kept → Type 0
IsKeptNext wanting old (Ok (Change edit)) new = IsKeptAfter old edit (outcome wanting old edit) new
IsKeptNext wanting old line new = new ≡ old

-- the reply to a line, and what is kept after it
abbrev pub reply : Bool → Kept → List ℕ → List ℕ
reply wanting kept line = reply_to wanting kept (line_at line)

abbrev pub IsNext : Bool → Kept → List ℕ → Kept → Type 0
IsNext wanting old line new = IsKeptNext wanting old (line_at line) new

-- an edit was made or refused, and the reply to it was written, or a part of it
abbrev pub PutsEdit : {S : Type 0} → Result (Unit {0}) Failed → Outgoing S → Outgoing S → Kept → Kept → Edit → Type 0
PutsEdit result old new kept now edit =
    (wanting : Bool) × IsKeptAfter kept edit (outcome wanting kept edit) now × Sends result old new (edit_text kept (outcome wanting kept edit))

-- the reply to a line that was read or not was written, or a part of it, and what is kept after the line is kept
abbrev pub PutsReply : {S : Type 0} → Result (Unit {0}) WriteError → Outgoing S → Outgoing S → Kept → Kept → Result Line LineError → Type 0
PutsReply result old new kept now line =
    (wanting : Bool) × IsKeptNext wanting kept line now × Writes result old new (reply_to wanting kept line)
