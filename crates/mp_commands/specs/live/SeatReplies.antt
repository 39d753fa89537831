-- How replies of seats are written.
use Rattle.std.specs.Prelude.{ℕ, Bool, true, false, List, [], Option, Some, None, if◌then◌else◌, codes}
use Rattle.mp_text.specs.declared.question.Question.{Question}
use Rattle.mp_text.specs.declared.question.Question.TheVariants.{Work, Edits}
use Rattle.mp_records.specs.declared.edit.Edit.{Edit}
use Rattle.mp_version.specs.Stories.{Story}
use Rattle.mp_seats.specs.declared.reply.Reply.{Reply}
use Rattle.mp_seats.specs.declared.reply.Reply.TheVariants.{Accepted, Refused, NotADesigner, NotKept, Unread, TooLong}
use Rattle.mp_commands.specs.answers.Answers.{answer_text}
use Rattle.mp_commands.specs.answers.Kept.{kept_at}
use Rattle.mp_commands.specs.live.SignedEdits.{signed_text}
use Rattle.mp_commands.specs.answers.ShortReplies.{accepted_text, refused_text, coded_text, unread_text, too_long_text}

-- whether a question asks for what was evaluated for the last edit
abbrev pub asks_for_work : Question → Bool
asks_for_work Work = true
asks_for_work question = false

abbrev pub no_work_text : List ℕ
no_work_text = coded_text (codes "refused ") 23 (codes "NoWork")

-- from which number on a question asks for the accepted edits, if it asks for these
abbrev pub asked_edits : Question → Option ℕ
asked_edits (Edits from) = Some from
asked_edits question = None

-- the accepted edits from a number on, if they are asked for, each with who made it; else this text
abbrev pub edits_or : List ℕ → List Edit → Option ℕ → List ℕ → List ℕ
edits_or authors edits None text = text
edits_or authors edits (Some from) text = signed_text authors edits from

-- the answer to a question after a story whose edits have these authors: that of a script, but that the edits are shown with who made them, and that a
-- version doesn't keep its work
abbrev pub seat_answer : Story → List ℕ → Question → List ℕ
seat_answer story authors question =
    if asks_for_work question then no_work_text else edits_or authors story.edits (asked_edits question) (answer_text (kept_at story []) question)

-- any other reply: that of a script, but that a viewer's edit is refused, and one that can't be kept
abbrev pub seat_reply : Reply → List ℕ
seat_reply (Accepted n) = accepted_text n
seat_reply (Refused error) = refused_text error
seat_reply NotADesigner = coded_text (codes "refused ") 22 (codes "NotADesigner")
seat_reply NotKept = coded_text (codes "refused ") 24 (codes "NotKept")
seat_reply (Unread error) = unread_text error
seat_reply TooLong = too_long_text
