-- What a line makes of who sits at a seat.
use Rattle.std.specs.Prelude.{◌≡◌, ◌⊎◌, ℕ, ◌+◌, ◌-◌, ◌^◌, min, Bool, true, false, List, [], ◌∷◌, ◌++◌, length, Option, Some, None, Result, Ok, Err}
use mathlib.Core.List.{IsPrefix}
use Rattle.mp_records.specs.declared.edit.Edit.{Edit}
use Rattle.mp_streams.specs.Outgoing.{Outgoing}
use Rattle.mp_streams.specs.WriteErrors.{Writes}
use Rattle.mp_streams.specs.declared.write_error.WriteError.{WriteError}
use Rattle.mp_text.specs.declared.lexing.line_error.LineError.{LineError}
use Rattle.mp_text.specs.declared.question.Question.{Question}
use Rattle.mp_text.specs.declared.script_line.Line.{Line}
use Rattle.mp_text.specs.declared.script_line.Line.TheVariants.{Ask}
use Rattle.mp_text.specs.ScriptLines.{line_at}
use Rattle.mp_version.specs.Stories.{Story, one_more}
use Rattle.mp_version.specs.Extending.{Extends}
use Rattle.mp_desk.specs.Holders.{RefusedAfter}
use Rattle.mp_seats.specs.declared.refusal.Refusal.{Refusal}
use Rattle.mp_seats.specs.declared.refusal.Refusal.TheVariants as refusals
use Rattle.mp_seats.specs.declared.reply.Reply.TheVariants.{Accepted}
use Rattle.mp_seats.specs.Replies.{Writing, IsEditLine, IsQuestionLine, IsRefusalAt, IsAnswerAt}
use Rattle.mp_seats.specs.talk.Answers.{Answering, ForAllAuthors}

-- who sits at a seat: the version seen last, how many edits were accepted, how many lines were refused or not read (0 at a seat that doesn't edit), the number
-- that was told last for an accepted edit (0 where there is none), the number of the designer who edits there, the authors of that version's edits, and the
-- versions that were read at the seat, the newest first
pub record Seated : Type 0 where
  pub seen : Story
  pub accepted : ℕ
  pub refused : ℕ
  pub told : ℕ
  pub number : ℕ
  pub signed : List ℕ
  pub reads : List Story

-- this was seen, with these authors, and these versions read, and nothing else changed
abbrev pub with_seen : Seated → Story → List ℕ → List Story → Seated
with_seen old seen authors reads = record old { seen = seen; signed = authors; reads = reads }

-- this was read, with these authors, and nothing else changed
abbrev pub with_read : Seated → Story → List ℕ → Seated
with_read old seen authors = with_seen old seen authors (seen ∷ old.reads)

-- the versions read change by a line that was read so: for a question the one of this story is read, and for any other line none
abbrev pub AddsRead : Story → Result Line LineError → List Story → List Story → Type 0
AddsRead story (Ok (Ask question)) before after = after ≡ story ∷ before
AddsRead story read before after = after ≡ before

-- they change so by a line
abbrev pub HasReadFor : Story → Option (List ℕ) → List Story → List Story → Type 0
HasReadFor story None before after = after ≡ before
HasReadFor story (Some line) before after = AddsRead story (line_at line) before after

-- one line more was refused or not read, at a seat that edits or doesn't: the count stays at its greatest value
abbrev pub one_more_refused : Bool → ℕ → ℕ
one_more_refused true refused = min (refused + 1) (2 ^ 64 - 1)
one_more_refused false refused = refused

-- that was counted, and nothing else changed
abbrev pub with_refusal : Bool → Seated → Seated
with_refusal edits old = record old { refused = one_more_refused edits old.refused }

-- the edit was accepted after this story by these authors, and these versions read
abbrev pub with_edit : Seated → Story → List ℕ → Edit → List Story → Seated
with_edit old before authors edit reads =
    record old { seen = one_more before edit; accepted = old.accepted + 1; told = length before.edits + 1; signed = authors ++ old.number ∷ []; reads = reads }

-- what became of an edit at a seat that edits or doesn't: its number, or why it isn't made
abbrev pub Submits : Bool → Result ℕ Refusal → Seated → Seated → Edit → Type 0
Submits edits (Ok n) old new edit =
    (edits ≡ true) × (before : Story) × Extends before old.seen × (authors : List ℕ) × IsPrefix old.signed authors × (length authors ≡ length before.edits)
    × (new ≡ with_edit old before authors edit new.reads) × (n ≡ length before.edits + 1)
Submits edits (Err (refusals.Refused error)) old new edit =
    (edits ≡ true) × RefusedAfter old.seen new.seen edit error × (new ≡ with_seen old new.seen new.signed new.reads) × Extends new.seen old.seen × IsPrefix old.signed new.signed
Submits edits (Err refusals.NotADesigner) old new edit = (edits ≡ false) × (new ≡ old)
Submits edits (Err refusals.NotKept) old new edit =
    (edits ≡ true) × (new ≡ with_seen old new.seen new.signed new.reads) × Extends new.seen old.seen × IsPrefix old.signed new.signed

-- the edit of a line was accepted after this story, which has these authors
pub record IsAcceptedLine (w : Writing) (edits : Bool) (old : Seated) (line : Option (List ℕ)) (new : Seated) (text : List ℕ) : Type 0 where
  pub edit : Edit
  pub before : Story
  pub authors : List ℕ
  pub edits_may : edits ≡ true
  pub is_edit : IsEditLine line edit
  pub extends : Extends before old.seen
  pub begins : IsPrefix old.signed authors
  pub each : length authors ≡ length before.edits
  pub stands : new ≡ with_edit old before authors edit new.reads
  pub replied : text ≡ w.reply (Accepted (length before.edits + 1))

-- a line was refused or not read after the story that was then seen, and counted
pub record IsRefusedLine (w : Writing) (edits : Bool) (old : Seated) (line : Option (List ℕ)) (new : Seated) (text : List ℕ) : Type 0 where
  pub extends : Extends new.seen old.seen
  pub begins : IsPrefix old.signed new.signed
  pub stands : new ≡ with_refusal edits (with_seen old new.seen new.signed new.reads)
  pub replied : IsRefusalAt w edits new.seen line text

-- a line was answered after the story that was then seen, a question after the one that was read for it
pub record IsAnsweredLine (w : Writing) (old : Seated) (line : Option (List ℕ)) (new : Seated) (text : List ℕ) : Type 0 where
  pub extends : Extends new.seen old.seen
  pub begins : IsPrefix old.signed new.signed
  pub stands : new ≡ with_seen old new.seen new.signed new.reads
  pub read : HasReadFor new.seen line old.reads new.reads
  pub replied : IsAnswerAt w new.seen line text

-- the step of a line
abbrev pub IsStep : Writing → Bool → Seated → Option (List ℕ) → Seated → List ℕ → Type 0
IsStep w edits old line new text = IsAcceptedLine w edits old line new text ⊎ (IsRefusedLine w edits old line new text ⊎ IsAnsweredLine w old line new text)

-- the step of a line, whoever makes the edits to come
abbrev pub IsSignedStep : (List ℕ → Writing) → Bool → Answering Seated
IsSignedStep w edits = ForAllAuthors (λ (seated : Seated). seated.signed) (λ authors. IsStep (w authors) edits)

-- an edit was submitted, and its reply was written, or a part of it
abbrev pub PutsEdit : {S : Type 0} → (List ℕ → Writing) → Bool → Result (Unit {0}) WriteError → Seated → Seated → Edit → Outgoing S → Outgoing S → Type 0
PutsEdit w edits result old now edit before after =
    (text : List ℕ) × ((line : Option (List ℕ)) → IsEditLine line edit → IsSignedStep w edits old line now text) × Writes result before after text

-- a question was asked, and its answer was written, or a part of it
abbrev pub PutsAsked : {S : Type 0} → (List ℕ → Writing) → Bool → Result (Unit {0}) WriteError → Seated → Seated → Question → Outgoing S → Outgoing S → Type 0
PutsAsked w edits result old now question before after =
    (text : List ℕ) × ((line : Option (List ℕ)) → IsQuestionLine line question → IsSignedStep w edits old line now text) × Writes result before after text
