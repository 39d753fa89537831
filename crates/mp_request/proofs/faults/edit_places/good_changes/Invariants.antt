use Rattle.std.specs.Prelude.{◌≡◌, ◌+◌, drop}
use Rattle.mp_request.specs.faults.EditPlaces.{good_changes}
use Rattle.mp_request.proofs.faults.edit_places.good_changes.Given as goal

-- so many changes are good, and those that are left go on from the time of the last
abbrev pub invariant-loop-place : goal.invariant-loop-place
invariant-loop-place l = l.place + good_changes l.horizon l.width l.before (drop l.place l.changes) ≡ good_changes l.horizon l.width 0 l.changes
