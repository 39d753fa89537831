use Rattle.std.proofs.Common.{◌≡◌, ◌++◌, not, take}
use Rattle.std.specs.List.{filter}
use Rattle.mp_picture.specs.Found.{is_module}
use Rattle.mp_picture.proofs.found.push_rows.Given as goal

-- the modules so far
abbrev pub invariant-modules : goal.invariant-modules
invariant-modules l = l.rows.items ≡ l.fn.rows.items ++ filter is_module (take l.place-index l.places)

-- the modules, and the bundles so far
abbrev pub invariant-bundles : goal.invariant-bundles
invariant-bundles l = l.rows.items ≡ l.fn.rows.items ++ (filter is_module l.places ++ filter (λ place. not (is_module place)) (take l.place-index l.places))
