-- The paths of a seat's named pipes as texts.
use Rattle.std.specs.Prelude.{◌≡◌, ℕ, List, ◌++◌, map, codes}
use Rattle.std.specs.Fmt.{decimal}
use Rattle.mp_seats.specs.declared.hosting.seat_place.SeatName.{SeatName}
use Rattle.mp_seats.specs.hosting.Places.{kind_text, number_of}

-- where a seat's lines are written and its answers read, the desk's own links to these pipes, a second pipe to read from, and a link on its way to the place
-- of the output
pub record PathTexts : Type 0 where
  pub input : List ℕ
  pub output : List ℕ
  pub own_input : List ℕ
  pub own_output : List ℕ
  pub spare : List ℕ
  pub next : List ℕ

-- the path of a seat's file in a folder, as `FOLDER/designer-1.in`
abbrev pub path_in : List ℕ → SeatName → List ℕ → List ℕ
path_in folder name end = folder ++ (codes "/" ++ (kind_text name ++ (decimal (number_of name) ++ end)))

-- those of a seat's pipes in a folder, with the desk's own in another
abbrev pub paths_in : List ℕ → List ℕ → SeatName → PathTexts
paths_in folder own name = record {
  input = path_in folder name (codes ".in");
  output = path_in folder name (codes ".out");
  own_input = path_in own name (codes ".in");
  own_output = path_in own name (codes ".out");
  spare = path_in own name (codes ".spare");
  next = path_in own name (codes ".next");
}

-- the paths are those of this seat, in some folders
abbrev pub IsAtPaths : SeatName → PathTexts → Type 0
IsAtPaths name paths = (folder : List ℕ) × (own : List ℕ) × (paths ≡ paths_in folder own name)

-- the paths of each of these seats, in two folders
abbrev pub AreAtPaths : List SeatName → List PathTexts → Type 0
AreAtPaths names paths = (folder : List ℕ) × (own : List ℕ) × (paths ≡ map (paths_in folder own) names)
