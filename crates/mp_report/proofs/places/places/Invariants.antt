use Rattle.mp_report.proofs.Names.{◌≡◌, ◌++◌, map, length, range_with_len, module_place, bundle_place}
use Rattle.mp_report.proofs.places.places.Given as goal

-- the modules so far
abbrev pub invariant-loop-number : goal.invariant-loop-number
invariant-loop-number l = l.list.items ≡ map module_place (range_with_len 0 l.number)

-- the modules, and the bundles so far
abbrev pub invariant-loop-number-2 : goal.invariant-loop-number-2
invariant-loop-number-2 l = l.list.items ≡ map module_place (range_with_len 0 (length l.netlist.modules)) ++ map bundle_place (range_with_len 0 l.number)
