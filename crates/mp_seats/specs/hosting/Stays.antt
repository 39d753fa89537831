-- Those who come to a seat through its door, one behind the other.
use Rattle.std.specs.Prelude.{◌≡◌, ◌⊎◌, ◌+◌, ◌<◌, ℕ, Bool, List, [], ◌∷◌, ◌++◌, length, Option, Result, slice_index_or}
use mathlib.Core.List.{IsPrefix}
use mathlib.Core.Logic.{inl, inr}
use Rattle.mp_streams.specs.Outgoing.{Outgoing}
use Rattle.mp_text.specs.lines.Incoming.{Incoming}
use Rattle.mp_seats.specs.declared.talk.talk_fault.TalkFault.{TalkFault}
use Rattle.mp_seats.specs.Marks.{places_of}
use Rattle.mp_seats.specs.Replies.{Writing}
use Rattle.mp_seats.specs.Steps.{Seated}
use Rattle.mp_seats.specs.Seats.{IsVisit}

-- what somebody wrote at a seat was answered, up to its end or a fault: what can be read of it at first, and what is then with whoever reads the answers, where
-- these are known, and what is with the reader in the end
pub record IsServed (T : Type 0) (w : Writing) (edits : Bool) (left taken : Option (List ℕ)) (start last : Seated) (put : Option (List ℕ)) : Type 0 where
  pub result : Result (Unit {0}) TalkFault
  pub old : Incoming
  pub new : Incoming
  pub before : Outgoing T
  pub after : Outgoing T
  pub written : (old.left ≡ left) × (old.held ≡ [])
  pub unread : (before.taken ≡ taken) × (before.held ≡ [])
  pub visit : IsVisit w edits result start last old new before after
  pub received : after.taken ≡ put

-- a door, by what it tells: who comes, with what there is to read and what was written before; who leaves, with what was written; and that somebody who came
-- could not be served
module _ (T : Type 0) {D : Type 0} (Comes : D → D → Option (List ℕ) → Option (List ℕ) → Type 0) (Leaves : D → D → Option (List ℕ) → Type 0) (TurnsAway : D → D → Type 0) (w : Writing) (edits : Bool) where
  -- who came through the door was served and left
  pub record HasLeft (start last : Seated) (before after : D) : Type 0 where
    pub inside : D
    pub left : Option (List ℕ)
    pub taken : Option (List ℕ)
    pub put : Option (List ℕ)
    pub comes : Comes before inside left taken
    pub served : IsServed T w edits left taken start last put
    pub leaves : Leaves inside after put

  -- who came through the door was not served, and changed nothing at the seat
  pub record WasTurnedAway (start last : Seated) (before after : D) : Type 0 where
    pub inside : D
    pub left : Option (List ℕ)
    pub taken : Option (List ℕ)
    pub comes : Comes before inside left taken
    pub turned_away : TurnsAway inside after
    pub same : last ≡ start

  -- somebody came and left
  abbrev pub IsStay : Seated → Seated → D → D → Type 0
  IsStay start last before after = HasLeft start last before after ⊎ WasTurnedAway start last before after

  -- somebody came and left, then the next one, and so on; each found the seat and the door as the one before had left them
  abbrev pub AreStays : Seated → D → List (Seated × D) → Seated → D → Type 0
  AreStays seat door [] last end = (last ≡ seat) × (end ≡ door)
  AreStays seat door (next ∷ others) last end = IsStay seat next.0 door next.1 × AreStays next.0 next.1 others last end

  -- from one state of a seat and its door to the other, some came and left
  pub record WasAttended (seat : Seated) (door : D) (last : Seated) (end : D) : Type 0 where
    pub stays : List (Seated × D)
    pub are : AreStays seat door stays last end

  -- seats of these numbers, from the first on, were attended through their doors, each from the state that its number has up to the one in its place
  abbrev pub AreAttended : (ℕ → Seated) → ℕ → List D → List Seated → Type 0
  AreAttended start number [] [] = Unit {0}
  AreAttended start number (door ∷ doors) (last ∷ lasts) = ((end : D) × WasAttended (start number) door last end) × AreAttended start (number + 1) doors lasts
  AreAttended start number doors lasts = ⊥

  -- the places in the story that somebody's accepted edits have
  abbrev pub claims_of_stay : (seat last : Seated) (before after : D) → IsStay seat last before after → List ℕ
  claims_of_stay seat last before after (inl left) = places_of left.served.visit.seat.marks
  claims_of_stay seat last before after (inr turned) = []

  -- those of all who came to a seat
  abbrev pub claims_of_stays : (seat : Seated) (door : D) (stays : List (Seated × D)) (last : Seated) (end : D) → AreStays seat door stays last end → List ℕ
  claims_of_stays seat door [] last end are = []
  claims_of_stays seat door (next ∷ others) last end are = claims_of_stay seat next.0 door next.1 are.0 ++ claims_of_stays next.0 next.1 others last end are.1

  -- those of each seat
  abbrev pub claims : (start : ℕ → Seated) (number : ℕ) (doors : List D) (lasts : List Seated) → AreAttended start number doors lasts → List (List ℕ)
  claims start number [] [] are = []
  claims start number [] (last ∷ lasts) are = []
  claims start number (door ∷ doors) [] are = []
  claims start number (door ∷ doors) (last ∷ lasts) are =
      claims_of_stays (start number) door are.0.1.stays last are.0.0 are.0.1.are ∷ claims start (number + 1) doors lasts are.1

module _ (T : Type 0) {D : Type 0} (Comes : D → D → Option (List ℕ) → Option (List ℕ) → Type 0) (Leaves : D → D → Option (List ℕ) → Type 0) (TurnsAway : D → D → Type 0) (w : List ℕ → Writing) (edits : Bool) where
  -- somebody came and left, whoever makes the edits to come
  abbrev pub IsSignedStay : Seated → Seated → D → D → Type 0
  IsSignedStay start last before after = (authors : List ℕ) → IsPrefix last.signed authors → IsStay T Comes Leaves TurnsAway (w authors) edits start last before after

  -- some came and left, whoever makes the edits to come
  abbrev pub WasSignedAttended : Seated → D → Seated → D → Type 0
  WasSignedAttended seat door last end = (authors : List ℕ) → IsPrefix last.signed authors → WasAttended T Comes Leaves TurnsAway (w authors) edits seat door last end

-- each of these became what stands in its place
abbrev pub Each : {P : Type 0} → (P → P → Type 0) → List P → List P → Type 0
Each {P} Becomes old new = (k : ℕ) (p : P) → k < length old → Becomes (slice_index_or old k p) (slice_index_or new k p)
