-- Designers and viewers as those who sit at seats.
use Rattle.std.specs.Prelude.{◌≡◌, ℕ, ◌+◌, ◌<◌, List, [], ◌∷◌, length, slice_index_or}
use Rattle.mp_version.specs.Stories.{Story}
use Rattle.mp_version.specs.publication.Chronicles.{unsigned}
use Rattle.mp_desk.specs.Holders.{Seeing}
use Rattle.mp_meeting.specs.Sittings.{DesignerTally}
use Rattle.mp_seats.specs.Steps.{Seated}

-- a designer at a seat
abbrev pub sitter : DesignerTally → Seated
sitter s = record { seen = s.seen; accepted = s.accepted; refused = s.refused; told = s.told; number = s.number; signed = s.signed; reads = s.reads }

-- a viewer at a seat, of whom no edit is accepted
abbrev pub looker : Seeing → Seated
looker v = record { seen = v.last; accepted = 0; refused = 0; told = 0; number = 0; signed = v.signed; reads = v.reads }

-- the designer of this number, who has just come to a seat, and sees this story
abbrev pub just_come : ℕ → Story → Seated
just_come number story = record { seen = story; accepted = 0; refused = 0; told = 0; number = number; signed = unsigned story; reads = story ∷ [] }

-- a viewer who has just come to a seat, and sees this story
abbrev pub just_looking : Story → Seated
just_looking story = record { seen = story; accepted = 0; refused = 0; told = 0; number = 0; signed = unsigned story; reads = story ∷ [] }

-- designers who have just come, numbered from 1
abbrev pub HaveCome : Story → List DesignerTally → Type 0
HaveCome story sittings = (k : ℕ) (s : DesignerTally) → k < length sittings → sitter (slice_index_or sittings k s) ≡ just_come (k + 1) story
