-- What a live desk writes where it is run.
use Rattle.std.specs.Prelude.{◌≡◌, ◌++◌, ℕ, List, Result, Ok, Err}
use Rattle.mp_meeting.specs.declared.tally.Tally.{Tally}
use Rattle.mp_seats.specs.declared.talk.talk_fault.TalkFault.{TalkFault}
use Rattle.mp_seats.specs.hosting.OwnSeats.{HasTalkedWithin}
use Rattle.mp_seats.specs.hosting.Places.{SeatNames}
use Rattle.mp_seats.specs.pipes.PipeDoors.{IsHostedAtPipes}
use Rattle.mp_seats.specs.Replies.{Writing, signed_writing}
use Rattle.mp_streams.specs.Outgoing.{Outgoing, Writes}
use Rattle.mp_streams.specs.declared.failed.Failed.{Failed}
use Rattle.mp_text.specs.lines.Incoming.{Incoming}
use Rattle.mp_version.specs.Stories.{Story, present}
use Rattle.mp_commands.specs.declared.command_runs.run_fault.RunFault.{RunFault}
use Rattle.mp_commands.specs.declared.command_runs.run_fault.RunFault.TheVariants.{WriteFailed}
use Rattle.mp_commands.specs.Desks.{outcome_text}
use Rattle.mp_commands.specs.live.SeatReplies.{seat_answer, seat_reply}
use Rattle.mp_commands.specs.live.TalkFaults.{run_fault_of}

-- how replies of seats are written where all edits have these authors
abbrev pub seat_writing : List ℕ → Writing
seat_writing = signed_writing seat_answer seat_reply

-- what follows the answers to the lines of whoever ran a desk: this text, or a part of it, from the front, where the sink failed; after a fault of these
-- lines nothing follows, and the run ends with that fault
abbrev pub EndsWith : {T : Type 0} → Result (Unit {0}) TalkFault → Result (Unit {0}) RunFault → Outgoing T → Outgoing T → List ℕ → Type 0
EndsWith (Ok done) (Ok closed) answered after text = Writes {T = Unit {0}} (Ok tt) answered after text
EndsWith (Ok done) (Err fault) answered after text = (fault ≡ WriteFailed) × ((failed : Failed) × Writes {T = Unit {0}} (Err failed) answered after text)
EndsWith (Err fault) ended answered after text = (ended ≡ Err (run_fault_of fault)) × (after ≡ answered)

-- a live desk went from the first story to the last: those who came to the pipes of these seats were served, designers at the seats for designers and viewers
-- at those for viewers; the lines of whoever ran it were answered up to their end or a fault; and behind the answers stand the counts of its designers and
-- viewers, as they are in the end, and the waves of the last story. Those who asked for edits were told these authors
pub record IsLiveDesk {T : Type 0} (first last : Story) (seats : SeatNames) (ended : Result (Unit {0}) RunFault) (old new : Incoming) (before after : Outgoing T) : Type 0 where
  pub talk : Result (Unit {0}) TalkFault
  pub answered : Outgoing T
  pub tallies : List Tally
  pub numbers : List ℕ
  pub authors : List ℕ
  pub hosted : IsHostedAtPipes seat_writing authors first last seats tallies numbers
  pub talked : HasTalkedWithin (seat_writing authors) talk first last (seats.designers ++ seats.viewers) old new before answered
  pub closed : EndsWith talk ended answered after (outcome_text tallies numbers (present last))
