-- The doors at named pipes. Nothing is known of who comes and leaves through a pipe, but a door leads to the same seat for all of them.
use Rattle.std.specs.Prelude.{◌≡◌, ℕ, List, Option}
use Rattle.std.specs.declared.fs.File.{File}
use Rattle.mp_streams.specs.StreamFaults.{Counted}
use Rattle.mp_version.specs.Stories.{Story}
use Rattle.mp_meeting.specs.declared.tally.Tally.{Tally}
use Rattle.mp_seats.specs.declared.hosting.seat_place.SeatName.{SeatName}
use Rattle.mp_seats.specs.Replies.{Writing}
use Rattle.mp_seats.specs.hosting.Hostings.{IsHosted}
use Rattle.mp_seats.specs.hosting.Places.{SeatNames}

-- somebody came to a seat
abbrev pub ComesTo : SeatName → SeatName → Option (List ℕ) → Option (List ℕ) → Type 0
ComesTo before inside left taken = inside ≡ before

-- somebody left a seat
abbrev pub LeavesFrom : SeatName → SeatName → Option (List ℕ) → Type 0
LeavesFrom inside after put = after ≡ inside

-- somebody was turned away from a seat
abbrev pub TurnsAwayFrom : SeatName → SeatName → Type 0
TurnsAwayFrom inside after = after ≡ inside

-- a desk was served from the first story to the last at the pipes of these seats: those who came to a seat for a designer edited, and those who came to one
-- for a viewer looked. Replies are written with these authors of all edits
abbrev pub IsHostedAtPipes : (List ℕ → Writing) → List ℕ → Story → Story → SeatNames → List Tally → List ℕ → Type 0
IsHostedAtPipes w authors first last seats tallies numbers = IsHosted (Counted File) ComesTo LeavesFrom TurnsAwayFrom w authors first last seats.designers seats.viewers tallies numbers
