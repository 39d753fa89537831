-- A designer at work on a block of lines.
use Rattle.std.specs.Prelude.{◌≡◌, ◌⊎◌, ℕ, ◌+◌, ◌<◌, slice_index_or, Bool, false, List, [], ◌∷◌, ◌++◌, length, Option, Some, None, Result, Ok, Err}
use Rattle.std.specs.Borrow.{Bor}
use mathlib.Core.List.{IsPrefix}
use Rattle.mp_text.specs.lexing.Lines.{lines_of}
use Rattle.mp_records.specs.declared.edit.Edit.{Edit}
use Rattle.mp_records.specs.declared.edit_error.EditError.{EditError}
use Rattle.mp_text.specs.declared.lexing.line_error.LineError.{LineError}
use Rattle.mp_text.specs.declared.script_line.Line.{Line}
use Rattle.mp_text.specs.declared.script_line.Line.TheVariants.{Empty, Change}
use Rattle.mp_version.specs.Stories.{Story, one_more, judged}
use Rattle.mp_version.specs.Extending.{Extends}
use Rattle.mp_desk.specs.Holders.{Working}
use Rattle.mp_meeting.specs.Fates.{Fate, said, AreFates, Rise, AreAmong, accepted_of, refused_of}

-- the version seen last, how many lines were accepted and refused, the number that the last notice tells of (0 where there is
-- none), whether memory was wanting, the designer's number, the authors of that version's edits, and all versions that were read at this place, the newest first
pub record DesignerTally : Type 0 where
  pub seen : Story
  pub accepted : ℕ
  pub refused : ℕ
  pub told : ℕ
  pub wanting : Bool
  pub number : ℕ
  pub signed : List ℕ
  pub reads : List Story

-- the number that a notice tells of
abbrev pub told_of : Option Story → ℕ
told_of None = 0
told_of (Some story) = length story.edits

-- a designer who has just come
abbrev pub begun : Working → DesignerTally
begun me = record { seen = me.seen; accepted = 0; refused = 0; told = 0; wanting = false; number = me.number; signed = me.signed; reads = me.reads }

-- this was seen, with these authors, and these versions read, and nothing else changed
abbrev pub with_seen : DesignerTally → Story → List ℕ → List Story → DesignerTally
with_seen old seen authors reads = record old { seen = seen; signed = authors; reads = reads }

-- the edit was accepted after this story by these authors, and these versions read
abbrev pub with_edit : DesignerTally → Story → List ℕ → Edit → List Story → DesignerTally
with_edit old before authors edit reads =
    record old { seen = one_more before edit; accepted = old.accepted + 1; told = length before.edits + 1; signed = authors ++ old.number ∷ []; reads = reads }

-- a line was refused, and this seen, with these authors, and these versions read
abbrev pub with_refusal : DesignerTally → Story → List ℕ → List Story → DesignerTally
with_refusal old seen authors reads = record old { seen = seen; refused = old.refused + 1; signed = authors; reads = reads }

abbrev pub IsAccepted : DesignerTally → DesignerTally → Edit → Type 0
IsAccepted old new edit =
    (before : Story) × Extends before old.seen × (authors : List ℕ) × IsPrefix old.signed authors × (length authors ≡ length before.edits) × (new ≡ with_edit old before authors edit new.reads)

abbrev pub IsRefused : DesignerTally → DesignerTally → Edit → Type 0
IsRefused old new edit =
    (seen : Story) × Extends seen old.seen × (error : EditError) × (judged seen edit ≡ Err error) × (authors : List ℕ) × IsPrefix old.signed authors × (new ≡ with_refusal old seen authors new.reads)

-- the step of a line that was read so
abbrev pub Takes : DesignerTally → DesignerTally → Result Line LineError → Type 0
Takes old new (Ok Empty) = new ≡ old
Takes old new (Ok (Change edit)) = IsAccepted old new edit ⊎ IsRefused old new edit
Takes old new read = new ≡ with_refusal old old.seen old.signed old.reads

-- all lines were submitted: these are their fates in each story that extends the one seen
pub record HasWorked (start : Story) (lines : List (List ℕ)) (sitting : DesignerTally) : Type 0 where
  pub fates : List Fate
  pub extends : Extends sitting.seen start
  pub judged : (now : Story) → Extends now sitting.seen → AreFates now (said lines) fates
  pub rise : (now : Story) → Extends now sitting.seen → Rise (length start.edits) (length now.edits) fates
  pub accepted : sitting.accepted ≡ accepted_of fates
  pub refused : sitting.refused ≡ refused_of fates
  pub among : AreAmong sitting.told fates

-- each designer whose memory sufficed has worked through the block
abbrev pub WorkedEach : List (Bor (List ℕ)) → List DesignerTally → List DesignerTally → Type 0
WorkedEach blocks old new =
    (k : ℕ) (s : DesignerTally) (b : Bor (List ℕ)) → k < length old → (slice_index_or new k s).wanting ≡ false
    → HasWorked (slice_index_or old k s).seen (lines_of (slice_index_or blocks k b).now) (slice_index_or new k s)
