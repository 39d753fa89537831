-- What a seat replies to a line.
use Rattle.std.specs.Prelude.{◌≡◌, ◌⊎◌, ◌<◌, ℕ, Bool, true, false, List, [], length, take, Option, Some, None, Result, Ok, Err}
use Rattle.mp_records.specs.declared.edit.Edit.{Edit}
use Rattle.mp_records.specs.declared.edit_error.EditError.{EditError}
use Rattle.mp_records.specs.declared.edit_error.EditError.TheVariants.{OutOfMemory}
use Rattle.mp_text.specs.declared.lexing.line_error.LineError.{LineError}
use Rattle.mp_text.specs.declared.question.Question.{Question}
use Rattle.mp_text.specs.declared.script_line.Line.{Line}
use Rattle.mp_text.specs.declared.script_line.Line.TheVariants.{Empty, Change, Ask}
use Rattle.mp_text.specs.LineStarts.{HasForm}
use Rattle.mp_text.specs.ScriptLines.{line_at}
use Rattle.mp_version.specs.Stories.{Story, judged}
use Rattle.mp_seats.specs.Widths.{written_length}
use Rattle.mp_seats.specs.declared.reply.Reply.{Reply}
use Rattle.mp_seats.specs.declared.reply.Reply.TheVariants.{Refused, NotADesigner, NotKept, Unread, TooLong}

-- how replies are written: the answer to a question after a story, and every other reply
pub record Writing : Type 0 where
  pub answer : Story → Question → List ℕ
  pub reply : Reply → List ℕ

-- how they are written by one who is told the authors of a story's edits, where the edits have these authors
abbrev pub signed_writing : (Story → List ℕ → Question → List ℕ) → (Reply → List ℕ) → List ℕ → Writing
signed_writing answer reply authors = record { answer = λ story question. answer story (take (length story.edits) authors) question; reply = reply }

-- the line makes this edit
abbrev pub IsEditLine : Option (List ℕ) → Edit → Type 0
IsEditLine None edit = ⊥
IsEditLine (Some line) edit = line_at line ≡ Ok (Change edit)

-- the line asks this question
abbrev pub IsQuestionLine : Option (List ℕ) → Question → Type 0
IsQuestionLine None question = ⊥
IsQuestionLine (Some line) question = line_at line ≡ Ok (Ask question)

-- the edit is refused after this story, for its own fault or for want of memory
abbrev pub IsRefusal : Story → Edit → EditError → Type 0
IsRefusal story edit error = (judged story edit ≡ Err error) ⊎ (error ≡ OutOfMemory)

-- the reply to an edit that isn't accepted, at a seat that edits or doesn't: where it edits, the edit is refused or can't be kept
abbrev pub IsEditReply : Writing → Bool → Story → Edit → List ℕ → Type 0
IsEditReply w true story edit text = ((error : EditError) × IsRefusal story edit error × (text ≡ w.reply (Refused error))) ⊎ (text ≡ w.reply NotKept)
IsEditReply w false story edit text = text ≡ w.reply NotADesigner

-- the answer after this story to what was read, if that is a question or has no words
abbrev pub IsReadAnswer : Writing → Story → Result Line LineError → List ℕ → Type 0
IsReadAnswer w story (Ok Empty) text = text ≡ []
IsReadAnswer w story (Ok (Change edit)) text = ⊥
IsReadAnswer w story (Ok (Ask question)) text = text ≡ w.answer story question
IsReadAnswer w story (Err error) text = ⊥

-- the reply after this story to an edit that isn't accepted, to a line that isn't read, or to a question for which memory is wanting
abbrev pub IsReadRefusal : Writing → Bool → Story → Result Line LineError → List ℕ → Type 0
IsReadRefusal w edits story (Ok Empty) text = ⊥
IsReadRefusal w edits story (Ok (Change edit)) text = IsEditReply w edits story edit text
IsReadRefusal w edits story (Ok (Ask question)) text = text ≡ w.reply (Refused OutOfMemory)
IsReadRefusal w edits story (Err error) text = text ≡ w.reply (Unread error)

-- the answer after this story to a line
abbrev pub IsAnswerAt : Writing → Story → Option (List ℕ) → List ℕ → Type 0
IsAnswerAt w story None text = ⊥
IsAnswerAt w story (Some line) text = IsReadAnswer w story (line_at line) text

-- the reply after this story to a line, None where it is too long, that is refused or isn't read; memory may be wanting for reading a line whose bytes are
-- allowed, whose first word is one that lines have, and that has as many words as it may; and a line is too long too where it is as the journal writes it
abbrev pub IsRefusalAt : Writing → Bool → Story → Option (List ℕ) → List ℕ → Type 0
IsRefusalAt w edits story None text = text ≡ w.reply TooLong
IsRefusalAt w edits story (Some line) text =
    IsReadRefusal w edits story (line_at line) text ⊎ ((HasForm line × (text ≡ w.reply (Refused OutOfMemory))) ⊎ ((65536 < written_length line) × (text ≡ w.reply TooLong)))
