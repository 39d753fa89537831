-- Lines that are answered as they come.
use Rattle.std.specs.Prelude.{◌≡◌, ℕ, false, List, [], ◌++◌, map, Result, Ok, Err}
use Rattle.std.specs.Io.KnownBytes.{Consumes, IsAtEnd}
use Rattle.mp_streams.specs.Outgoing.{Outgoing}
use Rattle.mp_streams.specs.WriteErrors.{Writes}
use Rattle.mp_streams.specs.declared.write_error.WriteError.TheVariants as writes
use Rattle.mp_text.specs.lexing.Lines.{lines_of}
use Rattle.mp_text.specs.lines.Given.{given, has_line_feed}
use Rattle.mp_text.specs.lines.Incoming.{Incoming}
use Rattle.mp_seats.specs.talk.Answers.{Answering, AreAnswers}
use Rattle.mp_seats.specs.declared.talk.talk_fault.TalkFault.{TalkFault}
use Rattle.mp_seats.specs.declared.talk.talk_fault.TalkFault.TheVariants.{ReadFailed, WriteFailed, OutOfMemory}

-- how a conversation ended in which these answers were to be written and the rest of what was taken was not answered: at the end of the source nothing
-- is left unanswered; after its fault no whole line is; and where the sink failed or memory was wanting a part of the answers is written
abbrev pub Closes : {S : Type 0} → Result (Unit {0}) TalkFault → List ℕ → Incoming → Outgoing S → Outgoing S → List ℕ → Type 0
Closes (Ok done) rest new before after text = (rest ≡ []) × IsAtEnd new.left × Writes {T = Unit {0}} (Ok tt) before after text
Closes (Err ReadFailed) rest new before after text = (has_line_feed rest ≡ false) × Writes {T = Unit {0}} (Ok tt) before after text
Closes (Err WriteFailed) rest new before after text = (rest ≡ new.held) × Writes {T = Unit {0}} (Err writes.WriteFailed) before after text
Closes (Err OutOfMemory) rest new before after text = (rest ≡ new.held) × Writes {T = Unit {0}} (Err writes.OutOfMemory) before after text

-- a conversation took some bytes of the source: their lines, behind what was held, are those that were answered in order and then those of the rest
pub record Conversed {S K : Type 0} (Answers : Answering K) (result : Result (Unit {0}) TalkFault) (first last : K) (old new : Incoming) (before after : Outgoing S) : Type 0 where
  pub bytes : List ℕ
  pub lines : List (List ℕ)
  pub rest : List ℕ
  pub text : List ℕ
  pub taken : Consumes old.left new.left bytes
  pub split : lines_of (old.held ++ bytes) ≡ lines ++ lines_of rest
  pub answers : AreAnswers Answers first (map given lines) last text
  pub closes : Closes result rest new before after text
