-- What the lines of a check satisfy.
use Rattle.std.specs.Prelude.{◌≡◌, ℕ, ◌≤◌, false, []}
use Rattle.mp_netlist.specs.Circuit.{Circuit}
use Rattle.mp_check.specs.CheckLines.{whole_check}
use Rattle.mp_check.specs.CheckTexts.{check_text}
use Rattle.mp_check.specs.Selections.{Selected}

-- from the first time to before another, of all modules and bundles
abbrev pub all_of : ℕ → Selected
all_of to = record { from = 0; to = to; names = [] }

-- up to the horizon that selects all of a check
abbrev pub ChecksAll : Type 0
ChecksAll = (n : Circuit) (to : ℕ) → n.horizon ≤ to → check_text n (all_of to) false ≡ whole_check n
