-- The seats of a desk by name, and what is told of them.
use Rattle.std.specs.Prelude.{◌≡◌, ℕ, Bool, true, false, List, [], ◌∷◌, ◌++◌, map, codes}
use Rattle.std.specs.Fmt.{decimal}
use Rattle.std.specs.List.{range_with_len}
use Rattle.mp_seats.specs.declared.hosting.seat_place.SeatKind.{SeatKind}
use Rattle.mp_seats.specs.declared.hosting.seat_place.SeatKind.TheVariants as kinds
use Rattle.mp_seats.specs.declared.hosting.seat_place.SeatName.{SeatName}
use Rattle.mp_seats.specs.declared.hosting.seat_place.SeatName.TheVariants.{Designer, Viewer}

-- the seats of a desk
pub record SeatNames : Type 0 where
  pub designers : List SeatName
  pub viewers : List SeatName

-- the name of a seat of a kind and number
abbrev pub named : SeatKind → ℕ → SeatName
named kinds.Designer number = Designer number
named kinds.Viewer number = Viewer number

-- the seats of this many designers and viewers, numbered from 1
abbrev pub numbered_seats : ℕ → ℕ → SeatNames
numbered_seats designers viewers =
    record { designers = map (named kinds.Designer) (range_with_len 1 designers); viewers = map (named kinds.Viewer) (range_with_len 1 viewers) }

-- the name of a seat's kind, as it is written before its number
abbrev pub kind_text : SeatName → List ℕ
kind_text (Designer number) = codes "designer-"
kind_text (Viewer number) = codes "viewer-"

-- a seat's number among those of its kind
abbrev pub number_of : SeatName → ℕ
number_of (Designer number) = number
number_of (Viewer number) = number

abbrev pub state_text : Bool → List ℕ
state_text true = codes " taken\n"
state_text false = codes " free\n"

-- a seat's line, with whether it is taken
abbrev pub place_text : SeatName → Bool → List ℕ
place_text name taken = kind_text name ++ (decimal (number_of name) ++ state_text taken)

-- a line for each of these seats
abbrev pub places_text : List (SeatName × Bool) → List ℕ
places_text [] = []
places_text (place ∷ places) = place_text place.0 place.1 ++ places_text places

-- the text has a line for each of the seats of these names, in order
abbrev pub TellsOf : List SeatName → List ℕ → Type 0
TellsOf names text = (places : List (SeatName × Bool)) × (map (λ place. place.0) places ≡ names) × (text ≡ places_text places)
