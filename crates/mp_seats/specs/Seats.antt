-- A seat: the lines that came, their replies, and a number for each line, which says after how many accepted edits it was answered.
use Rattle.std.specs.Prelude.{◌≡◌, ℕ, ◌+◌, ◌-◌, ◌^◌, ◌<◌, min, Bool, true, List, [], ◌∷◌, ◌++◌, length, map, Option, Some, Result, slice_get}
use Rattle.std.specs.Io.KnownBytes.{Consumes}
use mathlib.Core.List.{IsPrefix}
use Rattle.mp_records.specs.declared.edit.Edit.{Edit}
use Rattle.mp_streams.specs.Outgoing.{Outgoing}
use Rattle.mp_text.specs.lexing.Lines.{lines_of}
use Rattle.mp_text.specs.lines.Given.{given}
use Rattle.mp_text.specs.lines.Incoming.{Incoming}
use Rattle.mp_version.specs.Stories.{Story}
use Rattle.mp_version.specs.Extending.{Extends, up_to}
use Rattle.mp_seats.specs.declared.talk.talk_fault.TalkFault.{TalkFault}
use Rattle.mp_seats.specs.talk.Conversations.{Closes}
use Rattle.mp_seats.specs.declared.reply.Reply.TheVariants.{Accepted}
use Rattle.mp_seats.specs.Marks.{Mark, AcceptedAt, RefusedAt, AnsweredAt, Rise, accepted_of, refused_of, told_of, places_of, AreSigned}
use Rattle.mp_seats.specs.Replies.{Writing, IsEditLine, IsRefusalAt, IsAnswerAt}
use Rattle.mp_seats.specs.Steps.{Seated, HasReadFor}

-- a line has this reply: its edit is accepted, and then stands at its place in the story; or it is refused or answered after so many edits
abbrev pub IsReply : Writing → Bool → Story → Option (List ℕ) → Mark → List ℕ → Type 0
IsReply w edits now line (AcceptedAt k) text = (edit : Edit) × (edits ≡ true) × IsEditLine line edit × (slice_get now.edits k ≡ Some edit) × (text ≡ w.reply (Accepted (k + 1)))
IsReply w edits now line (RefusedAt k) text = IsRefusalAt w edits (up_to now k) line text
IsReply w edits now line (AnsweredAt k) text = IsAnswerAt w (up_to now k) line text

-- these bytes are the replies to lines in turn, with these numbers
abbrev pub AreReplies : Writing → Bool → Story → List (Option (List ℕ)) → List Mark → List ℕ → Type 0
AreReplies w edits now [] [] text = text ≡ []
AreReplies w edits now (line ∷ lines) (mark ∷ marks) text =
    (piece : List ℕ) × (later : List ℕ) × IsReply w edits now line mark piece × AreReplies w edits now lines marks later × (text ≡ piece ++ later)
AreReplies w edits now lines marks text = ⊥

-- the versions read change by a line with this number; what is read for an edit, or for a line that is refused, is left open
abbrev pub IsReadAt : Story → Option (List ℕ) → Mark → List Story → List Story → Type 0
IsReadAt now line (AcceptedAt k) before after = Unit {0}
IsReadAt now line (RefusedAt k) before after = Unit {0}
IsReadAt now line (AnsweredAt k) before after = HasReadFor (up_to now k) line before after

-- they change so by lines in turn
abbrev pub HaveRead : Story → List (Option (List ℕ)) → List Mark → List Story → List Story → Type 0
HaveRead now [] [] first last = last ≡ first
HaveRead now (line ∷ lines) (mark ∷ marks) first last = (next : List Story) × IsReadAt now line mark first next × HaveRead now lines marks next last
HaveRead now lines marks first last = ⊥

-- lines came to a seat, and these are their replies in each story that extends the one seen in the end: their numbers never fall, none is less than
-- what the seat had seen before, as many as were accepted are counted for it, and at a seat that edits as many as were refused, up to the greatest count;
-- the number that was told last is known, and the author of each accepted edit is the one who edits there; each question was answered after the version that
-- was read for it, and none that was kept
pub record IsSeat (w : Writing) (edits : Bool) (start : Seated) (lines : List (Option (List ℕ))) (last : Seated) (text : List ℕ) : Type 0 where
  pub marks : List Mark
  pub extends : Extends last.seen start.seen
  pub replies : (now : Story) → Extends now last.seen → AreReplies w edits now lines marks text
  pub rise : (now : Story) → Extends now last.seen → Rise (length start.seen.edits) (length now.edits) marks
  pub read : (now : Story) → Extends now last.seen → HaveRead now lines marks start.reads last.reads
  pub accepted : last.accepted ≡ start.accepted + accepted_of marks
  pub refused : edits ≡ true → start.refused < 2 ^ 64 → last.refused ≡ min (start.refused + refused_of marks) (2 ^ 64 - 1)
  pub told : last.told ≡ told_of start.told marks
  pub number : last.number ≡ start.number
  pub begins : IsPrefix start.signed last.signed
  pub signed : (authors : List ℕ) → IsPrefix last.signed authors → AreSigned start.number authors (places_of marks)

-- somebody came to a seat: of the source some bytes were taken, whose lines, behind what was held, are those that were answered in order and then those of
-- the rest; the answers went to the sink, all of them or a part
pub record IsVisit {S : Type 0} (w : Writing) (edits : Bool) (result : Result (Unit {0}) TalkFault) (start last : Seated) (old new : Incoming) (before after : Outgoing S) : Type 0 where
  pub bytes : List ℕ
  pub lines : List (List ℕ)
  pub rest : List ℕ
  pub text : List ℕ
  pub taken : Consumes old.left new.left bytes
  pub split : lines_of (old.held ++ bytes) ≡ lines ++ lines_of rest
  pub seat : IsSeat w edits start (map given lines) last text
  pub closes : Closes result rest new before after text
