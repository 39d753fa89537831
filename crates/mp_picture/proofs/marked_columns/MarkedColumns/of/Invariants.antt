use Rattle.std.proofs.Common.{◌≡◌, ℕ, take}
use Rattle.std.specs.BTreeSet.{contains}
use Rattle.mp_model.specs.declared.finding.Place.{Place}
use Rattle.mp_picture.specs.Found.{is_marked}
use Rattle.mp_picture.specs.PlaceKeys.{numbered_order, place_key}
use Rattle.mp_picture.proofs.marked_columns.MarkedColumns.of.Given as goal

-- the columns of the findings so far
abbrev pub invariant-loop-finding : goal.invariant-loop-finding
invariant-loop-finding l = (place : Place) (j : ℕ) → contains numbered_order l.marked (place_key place, j) ≡ is_marked l.columns place (take l.finding-index l.found) j
