-- Where the row of a wire stands in an SVG.
use Rattle.std.specs.Prelude.{ℕ, ◌+◌, ◌*◌, ◌==◌, if◌then◌else◌}
use Rattle.mp_picture.specs.declared.svg.lane.Lane.{Lane}

-- where a column begins
abbrev pub x_of : Lane → ℕ → ℕ
x_of lane j = lane.left + 8 * j

-- the height of level 1
abbrev pub top : Lane → ℕ
top lane = 28 * lane.row + 40

-- the height of level 0
abbrev pub bottom : Lane → ℕ
bottom lane = 28 * lane.row + 56

-- halfway between them
abbrev pub middle : Lane → ℕ
middle lane = 28 * lane.row + 48

-- the line that names and values stand on
abbrev pub base : Lane → ℕ
base lane = 28 * lane.row + 52

-- the height of a level of a wire of width 1
abbrev pub y_of : Lane → ℕ → ℕ
y_of lane level = if level == 0 then bottom lane else top lane
