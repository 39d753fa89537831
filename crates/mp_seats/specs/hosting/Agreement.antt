-- What meetings and seats have in common.
use Rattle.std.specs.Prelude.{◌≡◌, ℕ, ◌+◌, true, false, List, [], ◌∷◌, map, All, Some, Result, Ok}
use Rattle.mp_netlist.specs.Circuit.{Circuit}
use Rattle.mp_text.specs.declared.lexing.line_error.LineError.{LineError}
use Rattle.mp_text.specs.declared.question.Question.{Question}
use Rattle.mp_text.specs.declared.script_line.Line.{Line}
use Rattle.mp_text.specs.declared.script_line.Line.TheVariants.{Empty, Ask}
use Rattle.mp_text.specs.ScriptLines.{line_at}
use Rattle.mp_version.specs.Stories.{Story, opening}
use Rattle.mp_meeting.specs.declared.tally.Tally.{Tally}
use Rattle.mp_meeting.specs.Fates.{Fate, Accepted, Refused}
use Rattle.mp_meeting.specs.Meetings.{IsWorked, IsMeeting}
use Rattle.mp_version.specs.Extending.{up_to}
use Rattle.mp_seats.specs.Marks.{Mark, AcceptedAt, RefusedAt, AnsweredAt}
use Rattle.mp_seats.specs.Replies.{Writing}
use Rattle.mp_seats.specs.Seats.{IsSeat}
use Rattle.mp_seats.specs.hosting.Guests.{just_come, just_looking}

-- the number of a line that was read so, and then those of the others: that of its fate, or, where it has no words, what was seen before it
abbrev pub with_mark : ℕ → Result Line LineError → List Fate → (ℕ → List Fate → List Mark) → List Mark
with_mark seen (Ok Empty) fates others = AnsweredAt seen ∷ others seen fates
with_mark seen read [] others = AnsweredAt seen ∷ others seen []
with_mark seen read (Accepted k ∷ fates) others = AcceptedAt k ∷ others (k + 1) fates
with_mark seen (Ok (Ask question)) (Refused k ∷ fates) others = AnsweredAt k ∷ others k fates
with_mark seen read (Refused k ∷ fates) others = RefusedAt k ∷ others k fates

-- the numbers of a block's lines that have these fates
abbrev pub marks_of : ℕ → List (List ℕ) → List Fate → List Mark
marks_of seen [] fates = []
marks_of seen (line ∷ lines) fates = with_mark seen (line_at line) fates (λ seen_next others. marks_of seen_next lines others)

-- a designer's block of a meeting is answered as at a designer's seat of any number, however replies are written: with the numbers of its fates, and as many
-- accepted edits
abbrev pub BlocksAreSeats : Type 0
BlocksAreSeats =
    (w : Writing) (number : ℕ) (now : Story) (numbers : List ℕ) (lines : List (List ℕ)) (tally : Tally) (worked : IsWorked now numbers lines tally)
    → (text : List ℕ) × (signed : List ℕ) × (refused : ℕ) × (told : ℕ) × (reads : List Story)
    × (seat : IsSeat w true (just_come number (opening now.base)) (map (λ line. Some line) lines)
    (record { seen = now; accepted = tally.accepted; refused = refused; told = told; number = number; signed = signed; reads = reads }) text)
    × (seat.marks ≡ marks_of 0 lines worked.fates)

-- what a viewer saw is answered as at a viewer's seat to a line that asks for it, with the viewer's number
abbrev pub IsSeenAtSeat : Writing → Story → ℕ → Type 0
IsSeenAtSeat w now number =
    (line : List ℕ) (question : Question) → line_at line ≡ Ok (Ask question)
    → (seat : IsSeat w false (just_looking (opening now.base)) (Some line ∷ []) (record (just_looking now) { reads = up_to now number ∷ opening now.base ∷ [] }) (w.answer (up_to now number) question)) × (seat.marks ≡ AnsweredAt number ∷ [])

-- so it is with each viewer of a meeting
abbrev pub NumbersAreSeats : Type 0
NumbersAreSeats =
    (w : Writing) (base : Circuit) (blocks : List (List (List ℕ))) (now : Story) (tallies : List Tally) (numbers : List ℕ)
    → IsMeeting base blocks now tallies numbers → All (IsSeenAtSeat w now) numbers
