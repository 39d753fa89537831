-- What becomes of a desk that is served.
use Rattle.std.specs.Prelude.{◌≡◌, ◌<◌, ℕ, true, false, List, length, map, All, Option}
use mathlib.Core.List.{IsPrefix}
use Rattle.mp_version.specs.Stories.{Story}
use Rattle.mp_version.specs.publication.Chronicles.{unsigned}
use Rattle.mp_version.specs.Extending.{Extends}
use Rattle.mp_meeting.specs.declared.tally.Tally.{Tally}
use Rattle.mp_meeting.specs.Sittings.{DesignerTally}
use Rattle.mp_meeting.specs.Seats.{HasAdjourned}
use Rattle.mp_seats.specs.Replies.{Writing}
use Rattle.mp_seats.specs.Steps.{Seated}
use Rattle.mp_seats.specs.hosting.Guests.{sitter, just_come, just_looking}
use Rattle.mp_seats.specs.hosting.Stays.{AreAttended, claims}
use Rattle.mp_seats.specs.hosting.Claims.{AreClaimed, AreAllSigned}

module _ (T : Type 0) {D : Type 0} (Comes : D → D → Option (List ℕ) → Option (List ℕ) → Type 0) (Leaves : D → D → Option (List ℕ) → Type 0) (TurnsAway : D → D → Type 0) (w : List ℕ → Writing) where
  -- a desk was served from the first story to the last: each designer's and each viewer's seat was attended through its door, from the first story on; the
  -- last extends what was seen at each; and the meeting ended with those who then sat there, so that the last story's edits are the first one's and
  -- as many as were accepted at all seats; each of these edits has its place by one line of one seat, so that no place is anybody else's; and if there are
  -- any, each viewer has seen them all in the end. Replies are written with these authors of all edits: nobody for an edit of the first story, and for each
  -- other one the number of the seat that it has its place by
  pub record IsHosted (authors : List ℕ) (first last : Story) (designers viewers : List D) (tallies : List Tally) (numbers : List ℕ) : Type 0 where
    pub sittings : List DesignerTally
    pub looks : List Seated
    pub edited : AreAttended T Comes Leaves TurnsAway (w authors) true (λ number. just_come number first) 1 designers (map sitter sittings)
    pub looked : AreAttended T Comes Leaves TurnsAway (w authors) false (λ number. just_looking first) 1 viewers looks
    pub read : All (λ s. Extends last s.seen) looks
    pub adjourned : HasAdjourned (length first.edits) sittings (length viewers) last tallies numbers
    pub extends : Extends last first
    pub claimed :
        AreClaimed (length first.edits) (length last.edits) (claims T Comes Leaves TurnsAway (w authors) true (λ number. just_come number first) 1 designers (map sitter sittings) edited)
    pub signed : AreAllSigned authors 1 (claims T Comes Leaves TurnsAway (w authors) true (λ number. just_come number first) 1 designers (map sitter sittings) edited)
    pub older : IsPrefix (unsigned first) authors
    pub each : length authors ≡ length last.edits
    pub saw : length first.edits < length last.edits → All (λ number. number ≡ length last.edits) numbers
