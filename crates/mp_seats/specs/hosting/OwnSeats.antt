-- The seat of whoever runs a desk.
use Rattle.std.specs.Prelude.{◌≡◌, ◌⊎◌, ℕ, Bool, false, List, [], ◌∷◌, Option, Some, None, Result, Ok, codes}
use Rattle.mp_streams.specs.Outgoing.{Outgoing}
use Rattle.mp_text.specs.lexing.Lines.{line_words}
use Rattle.mp_text.specs.lines.Incoming.{Incoming}
use Rattle.mp_version.specs.Stories.{Story}
use Rattle.mp_seats.specs.declared.talk.talk_fault.TalkFault.{TalkFault}
use Rattle.mp_version.specs.Extending.{Extends}
use Rattle.mp_seats.specs.talk.Answers.{Answering, ForAllAuthors}
use Rattle.mp_seats.specs.talk.Conversations.{Conversed}
use Rattle.mp_seats.specs.Replies.{Writing}
use Rattle.mp_seats.specs.Steps.{Seated, IsStep}
use Rattle.mp_seats.specs.declared.hosting.seat_place.SeatName.{SeatName}
use Rattle.mp_seats.specs.hosting.Guests.{just_looking}
use Rattle.mp_seats.specs.hosting.Places.{TellsOf}

-- whoever runs a desk, as one who sits there, and the names of the desk's seats
pub record Owner : Type 0 where
  pub seated : Seated
  pub names : List SeatName

-- one who has just come
abbrev pub own_seat : Story → List SeatName → Owner
own_seat start names = record { seated = just_looking start; names = names }

-- the line asks who has taken the seats: its one word is `seats`, and its bytes are allowed, in a comment too
abbrev pub IsSeatsLine : Option (List ℕ) → Type 0
IsSeatsLine None = ⊥
IsSeatsLine (Some line) = line_words line ≡ Ok (codes "seats" ∷ [])

-- the step of a line: if it asks for that, of each of the desk's seats is told whether it is taken; else it is that of any seat
abbrev pub IsOwnStep : Writing → Bool → Owner → Option (List ℕ) → Owner → List ℕ → Type 0
IsOwnStep w edits old line new text =
    ((IsSeatsLine line → ⊥) × IsStep w edits old.seated line new.seated text × (new.names ≡ old.names)) ⊎ (IsSeatsLine line × TellsOf old.names text × (new ≡ old))

-- the same, whoever makes the edits to come
abbrev pub IsSignedOwnStep : (List ℕ → Writing) → Bool → Answering Owner
IsSignedOwnStep w edits = ForAllAuthors (λ (owner : Owner). owner.seated.signed) (λ authors. IsOwnStep (w authors) edits)

-- the lines of whoever runs a desk with seats of these names, and makes no edits, were answered from the first story on, and ended so; this was seen last
abbrev pub HasTalked : {S : Type 0} → Writing → Result (Unit {0}) TalkFault → Story → Story → List SeatName → Incoming → Incoming → Outgoing S → Outgoing S → Type 0
HasTalked w result start seen names old new before after =
    (last : Owner) × (last.seated.seen ≡ seen) × Conversed (IsOwnStep w false) result (own_seat start names) last old new before after

-- the same, where the desk's last story extends what was seen
abbrev pub HasTalkedWithin : {S : Type 0} → Writing → Result (Unit {0}) TalkFault → Story → Story → List SeatName → Incoming → Incoming → Outgoing S → Outgoing S → Type 0
HasTalkedWithin w result start end names old new before after = (seen : Story) × Extends end seen × HasTalked w result start seen names old new before after
